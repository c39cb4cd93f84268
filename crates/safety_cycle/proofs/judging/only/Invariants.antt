use Rattle.std.proofs.Common.{◌≡◌, ℕ, ◌<◌, nat_eq, length}
use Rattle.least_walk.specs.Walks.{is_goal}
use Rattle.safety_cycle.proofs.judging.only.Given as goal

abbrev pub invariant-loop-v : goal.invariant-loop-v
invariant-loop-v l =
    record {
      size : length l.goal.items ≡ l.v;
      one : (k : ℕ) → k < l.v → is_goal l.goal.items k ≡ nat_eq k l.node;
    }
