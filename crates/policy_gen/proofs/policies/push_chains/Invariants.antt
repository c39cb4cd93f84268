use Rattle.std.proofs.Common.{◌≡◌, ◌++◌}
use Rattle.gt_text.specs.Words.{as_text}
use Rattle.policy_gen.specs.Texts.{chain, all_for_each}
use Rattle.policy_gen.proofs.policies.push_chains.Given as goal

abbrev pub invariant-loop-n : goal.invariant-loop-n
invariant-loop-n l = l.text.items ≡ l.fn.text.items ++ as_text (all_for_each chain l.n)
