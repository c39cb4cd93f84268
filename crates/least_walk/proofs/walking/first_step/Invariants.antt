use Rattle.std.proofs.Common.{◌+◌, ◌%◌}
use Rattle.least_walk.proofs.Stepping.{Stepped}
use Rattle.least_walk.proofs.walking.first_step.Given as goal

abbrev pub invariant-loop-n : goal.invariant-loop-n
invariant-loop-n g l = Stepped (g.P.Passable.passes l.by) l.edges l.dist l.at l.n l.best

abbrev pub decreases-loop-n : goal.decreases-loop-n
decreases-loop-n g l = (l.n + 1) % 4_294_967_296
