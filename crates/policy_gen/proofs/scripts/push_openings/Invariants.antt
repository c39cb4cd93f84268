use Rattle.std.proofs.Common.{◌≡◌, ◌++◌}
use Rattle.gt_text.specs.Words.{as_text}
use Rattle.policy_gen.specs.Texts.{opening, all_for_each}
use Rattle.policy_gen.proofs.scripts.push_openings.Given as goal

abbrev pub invariant-loop-n : goal.invariant-loop-n
invariant-loop-n l = l.text.items ≡ l.fn.text.items ++ as_text (all_for_each opening l.n)
