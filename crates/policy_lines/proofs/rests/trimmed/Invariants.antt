use Rattle.std.proofs.Common.{◌≡◌, ◌≤◌, length}
use Rattle.policy_words.specs.Rests.{trimmed}
use Rattle.policy_lines.proofs.rests.trimmed.Given as goal

abbrev pub invariant-loop-text : goal.invariant-loop-text
invariant-loop-text l = record { rest : trimmed l.text ≡ trimmed l.fn.text; fewer : length l.text ≤ length l.fn.text }

abbrev pub decreases-loop-text : goal.decreases-loop-text
decreases-loop-text l = length l.text
