use Rattle.std.proofs.Common.{◌+◌, ◌-◌, length}
use Rattle.least_walk.specs.Distances.{unreached, Spread}
use Rattle.least_walk.proofs.distances.distances.Given as goal

abbrev pub invariant-loop-head : goal.invariant-loop-head
invariant-loop-head g l = Spread (g.P.Passable.passes l.by) l.edges l.goal l.dist.items l.found.items l.head

abbrev pub decreases-loop-head : goal.decreases-loop-head
decreases-loop-head g l = length l.found.items - l.head + unreached l.dist.items
