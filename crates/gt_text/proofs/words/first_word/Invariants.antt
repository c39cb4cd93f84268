use Rattle.std.proofs.Common.{◌≡◌, length}
use Rattle.gt_text.specs.Words.{blank_cut}
use Rattle.gt_text.proofs.words.first_word.Given as goal

abbrev pub invariant-loop-text : goal.invariant-loop-text
invariant-loop-text l = blank_cut l.text ≡ blank_cut l.fn.line

abbrev pub decreases-loop-text : goal.decreases-loop-text
decreases-loop-text l = length l.text
