use Rattle.least_walk.proofs.Chaining.{Chained}
use Rattle.least_walk.proofs.chains.chains_of.Given as goal

abbrev pub invariant-loop-n : goal.invariant-loop-n
invariant-loop-n l = Chained l.keys l.nodes l.last.items l.before.items l.n
