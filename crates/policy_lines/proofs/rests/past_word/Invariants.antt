use Rattle.std.proofs.Common.{◌≡◌, ◌≤◌, length}
use Rattle.policy_words.specs.Rests.{past_word}
use Rattle.policy_lines.proofs.rests.past_word.Given as goal

abbrev pub invariant-loop-text : goal.invariant-loop-text
invariant-loop-text l = record { rest : past_word l.text ≡ past_word l.fn.text; fewer : length l.text ≤ length l.fn.text }

abbrev pub decreases-loop-text : goal.decreases-loop-text
decreases-loop-text l = length l.text
