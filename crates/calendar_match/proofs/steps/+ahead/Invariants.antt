use Rattle.std.proofs.Common.{length}
use Rattle.calendar_match.proofs.steps.+ahead.Given as goal

abbrev pub decreases-ahead : goal.decreases-ahead
decreases-ahead l = length l.parts.now
