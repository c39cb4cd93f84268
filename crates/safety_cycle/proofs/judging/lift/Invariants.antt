use Rattle.std.proofs.Common.{◌≡◌, ℕ, ◌<◌, ◌≤◌, slice_index}
use Rattle.least_walk.specs.Walks.{is_goal}
use Rattle.safety_cycle.specs.Ranks.{lifted}
use Rattle.safety_cycle.proofs.judging.lift.Given as goal

abbrev pub invariant-loop-v : goal.invariant-loop-v
invariant-loop-v l =
    record {
      before : (k : ℕ) → k < l.v → slice_index l.ranks k ≡ lifted l.rank (slice_index l.fn.ranks k) (is_goal l.reach k);
      after : (k : ℕ) → l.v ≤ k → slice_index l.ranks k ≡ slice_index l.fn.ranks k;
    }
