use Rattle.std.proofs.Common.{vec_len}
use Rattle.daemon_checks.proofs.crews.dismiss.Given as goal

abbrev pub invariant-loop-viewer : goal.invariant-loop-viewer
invariant-loop-viewer l = Unit {0}

abbrev pub decreases-loop-viewer : goal.decreases-loop-viewer
decreases-loop-viewer l = vec_len l.viewers
