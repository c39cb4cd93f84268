use Rattle.std.proofs.Common.{length}
use Rattle.calendar_match.proofs.begins.+selects.Given as goal

abbrev pub decreases-selects : goal.decreases-selects
decreases-selects l = length l.parts.now
