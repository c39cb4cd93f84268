use Rattle.std.proofs.Common.{vec_len}
use Rattle.daemon_checks.proofs.crews.let_go.Given as goal

abbrev pub invariant-loop-worker : goal.invariant-loop-worker
invariant-loop-worker l = Unit {0}

abbrev pub decreases-loop-worker : goal.decreases-loop-worker
decreases-loop-worker l = vec_len l.crew
