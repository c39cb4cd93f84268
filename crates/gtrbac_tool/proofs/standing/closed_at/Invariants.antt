use Rattle.std.proofs.Common.{◌≡◌, length}
use Rattle.gtrbac_tool.specs.Standing.{closed_at}
use Rattle.gtrbac_tool.proofs.standing.closed_at.Given as goal

abbrev pub invariant-loop-trace : goal.invariant-loop-trace
invariant-loop-trace l = closed_at l.trace l.t ≡ closed_at l.fn.trace l.t

abbrev pub decreases-loop-trace : goal.decreases-loop-trace
decreases-loop-trace l = length l.trace
