use Rattle.std.proofs.Common.{◌≡◌, ◌++◌, take, map}
use Rattle.policy_text.specs.Sections.{settled_item}
use Rattle.policy_text.proofs.rules.add_settled.Given as goal

abbrev pub invariant-loop-cond : goal.invariant-loop-cond
invariant-loop-cond l = l.items.items ≡ l.fn.items.items ++ map (settled_item l.p.names) (take l.cond-index l.conds)
