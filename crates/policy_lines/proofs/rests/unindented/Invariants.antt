use Rattle.std.proofs.Common.{◌≡◌, ◌≤◌, length}
use Rattle.policy_words.specs.Rests.{unindented}
use Rattle.policy_lines.proofs.rests.unindented.Given as goal

abbrev pub invariant-loop-text : goal.invariant-loop-text
invariant-loop-text l = record { rest : unindented l.text ≡ unindented l.fn.text; fewer : length l.text ≤ length l.fn.text }

abbrev pub decreases-loop-text : goal.decreases-loop-text
decreases-loop-text l = length l.text
