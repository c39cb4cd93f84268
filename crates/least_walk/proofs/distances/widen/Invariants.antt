use Rattle.std.proofs.Common.{◌+◌, ◌%◌, length}
use Rattle.least_walk.specs.Distances.{unreached}
use Rattle.least_walk.proofs.Spreading.{Widened}
use Rattle.least_walk.proofs.distances.widen.Given as goal

abbrev pub invariant-loop-n : goal.invariant-loop-n
invariant-loop-n g l = Widened (g.P.Passable.passes l.by) l.edges l.goal l.dist l.found.items l.head l.at l.n (length l.fn.found.items + unreached l.fn.dist)

abbrev pub decreases-loop-n : goal.decreases-loop-n
decreases-loop-n g l = (l.n + 1) % 4_294_967_296
