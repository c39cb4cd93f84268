use Rattle.std.proofs.Common.{subst}
use Rattle.why_check.specs.Peaks.{ArePeaks, peak_in, sides_in}
use Rattle.why_check.proofs.blocking.Peaks.new.Goals as goal

pub invariant_of-result : goal.invariant_of-result
invariant_of-result c = subst (λ es. ArePeaks es (peak_in (sides_in c.in_ok-sides.sides))) c.events.ensures c.in_ok-sides.ensures
