use Rattle.std.proofs.Common.{◌≡◌, ◌≤◌, ◌+◌, length, take}
use Rattle.time_engine.proofs.copying.copied_trace.Given as goal

-- the sets so far
abbrev pub invariant-loop-c : goal.invariant-loop-c
invariant-loop-c l =
    record {
      room : length l.trace.items ≤ l.copy.spare + l.c-index;
      sets : l.copy.items ≡ take l.c-index l.trace.items;
    }
