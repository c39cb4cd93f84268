use Rattle.std.proofs.Common.{◌-◌}
use Rattle.forecast.specs.Going.{IsOnWay}
use Rattle.forecast.proofs.changes.walk.Given as goal
use Rattle.forecast.proofs.Agreeing.{StayedSo}

abbrev pub invariant-loop-f : goal.invariant-loop-f
invariant-loop-f l =
    record {
      way : IsOnWay l.book l.line.line l.table;
      so : StayedSo l.book l.f l.upto l.was l.line.line;
    }

abbrev pub decreases-loop-f : goal.decreases-loop-f
decreases-loop-f l = l.upto - l.line.line.now
