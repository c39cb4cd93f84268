use Rattle.std.proofs.Common.{ℕ, ◌<◌, ◌≤◌, slice_index}
use Rattle.instant_engine.proofs.levels.count.Given as goal

-- no node so far has a greater level
abbrev pub invariant-loop-node : goal.invariant-loop-node
invariant-loop-node l =
    record {
      above : (v : ℕ) → v < l.node → slice_index l.s v ≤ l.greatest;
    }
