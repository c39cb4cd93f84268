use Rattle.std.proofs.Common.{sym, ◌∙◌, arith}
use Rattle.gt_base.specs.Sets.{has}
use Rattle.policy_text.proofs.EdgesFrom.{not_all}
use Rattle.policy_text.proofs.versions.are_linked.Goals as goal

pub returns-then-not-is_on : goal.returns-then-not-is_on
returns-then-not-is_on c = sym (not_all (has c.args.status.now.set) 0 c.args.count _ (omega arith) (omega (arith, c.loop-n.invariant.below, c.loop-n-test.true)) (sym c.is_on.ensures ∙ c.if-not-is_on.true))
