use Rattle.std.proofs.Common.{◌≤◌}
use Rattle.least_walk.proofs.Stepping.{BestOf}
use Rattle.least_walk.proofs.walking.nearest.Given as goal
use Rattle.least_walk.specs.declared.distances.TheConstants.{FAR}

abbrev pub invariant-loop-s : goal.invariant-loop-s
invariant-loop-s l = record { best : BestOf l.from l.dist l.least l.s-index l.best; bound : l.least ≤ FAR }
