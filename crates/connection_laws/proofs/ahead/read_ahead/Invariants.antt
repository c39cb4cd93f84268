use Rattle.std.proofs.Common.{◌≤◌, ◌-◌, List, ℕ, length, take, All}
use Rattle.connection_laws.specs.Fits.{FrameFits}
use Rattle.connection_laws.specs.Attending.{IsRead, AreRead}
use Rattle.connection_laws.proofs.ahead.read_ahead.Given as goal

abbrev pub invariant-loop-at : goal.invariant-loop-at
invariant-loop-at l =
    record {
      within : (l.at ≤ length l.piece) × (l.lines ≤ length l.said) × (l.lines ≤ l.at);
      read : (text : List ℕ) → FrameFits l.fn.framer text → AreRead l.policy text (take l.at l.piece) l.framer (take l.lines l.said);
      each : All (IsRead l.policy) (take l.lines l.said);
    }

abbrev pub decreases-loop-at : goal.decreases-loop-at
decreases-loop-at l = length l.piece - l.at
