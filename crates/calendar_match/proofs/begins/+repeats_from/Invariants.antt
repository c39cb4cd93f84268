use Rattle.std.proofs.Common.{length}
use Rattle.calendar_match.proofs.begins.+repeats_from.Given as goal

abbrev pub decreases-repeats_from : goal.decreases-repeats_from
decreases-repeats_from l = length l.parts.now
