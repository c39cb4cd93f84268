use Rattle.std.proofs.Common.{◌≡◌, ◌++◌, take}
use Rattle.policy_text.specs.Sections.{lines_by, trigger_line}
use Rattle.policy_text.proofs.rules.push_triggers.Given as goal

abbrev pub invariant-loop-trigger : goal.invariant-loop-trigger
invariant-loop-trigger l = l.text.items ≡ l.fn.text.items ++ lines_by (trigger_line l.p.names) (take l.trigger-index l.p.policy.triggers)
