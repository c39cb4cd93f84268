use Rattle.std.proofs.Common.{ℕ, ◌<◌, ◌≤◌, slice_index}
use Rattle.safety_cycle.proofs.judging.are_low.Given as goal

abbrev pub invariant-loop-r : goal.invariant-loop-r
invariant-loop-r l = (v : ℕ) → v < l.r-index → slice_index l.ranks v ≤ l.limit
