use Rattle.safety_cycle.specs.Ranks.{AreRanks}
use Rattle.safety_cycle.proofs.judging.judge.Given as goal

abbrev pub invariant-loop-n : goal.invariant-loop-n
invariant-loop-n l = AreRanks l.g.nodes l.g.edges l.ranks.items l.n
