use Rattle.std.proofs.Common.{◌≡◌, ◌<◌, ◌≤◌, ◌-◌, ℕ, false, length}
use Rattle.std.specs.Prelude.{slice_index}
use Rattle.gt_text.specs.Words.{is_blank}
use Rattle.gt_text.proofs.words.word_len.Given as goal

abbrev pub invariant-loop-n : goal.invariant-loop-n
invariant-loop-n l = record { within : l.n ≤ length l.text; word : (k : ℕ) → k < l.n → is_blank (slice_index l.text k) ≡ false }

abbrev pub decreases-loop-n : goal.decreases-loop-n
decreases-loop-n l = length l.text - l.n
