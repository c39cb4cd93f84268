use Rattle.std.proofs.Common.{◌≡◌, ◌++◌}
use Rattle.gt_text.specs.Words.{as_text}
use Rattle.policy_gen.specs.Texts.{two, for_each}
use Rattle.policy_gen.proofs.policies.push_matched.Given as goal

abbrev pub invariant-loop-n : goal.invariant-loop-n
invariant-loop-n l = l.text.items ≡ l.fn.text.items ++ as_text (for_each (λ i. two l.first i l.second i) l.n)
