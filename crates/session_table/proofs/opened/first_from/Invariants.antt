use Rattle.std.proofs.Common.{◌≡◌, ℕ, ◌-◌, ◌<◌, ◌≤◌, length, Some}
use Rattle.std.specs.List.{slice_get}
use Rattle.session_table.specs.declared.opened.Open.{Open}
use Rattle.session_table.proofs.opened.first_from.Given as goal

abbrev pub invariant-loop-low : goal.invariant-loop-low
invariant-loop-low l = record {
  order : l.low ≤ l.high;
  inside : l.high ≤ length l.sessions;
  below : (i : ℕ) (o : Open) → i < l.low → slice_get l.sessions i ≡ Some o → o.number.0 < l.number;
  above : (i : ℕ) (o : Open) → l.high ≤ i → slice_get l.sessions i ≡ Some o → l.number ≤ o.number.0;
}

abbrev pub decreases-loop-low : goal.decreases-loop-low
decreases-loop-low l = l.high - l.low
