use Rattle.std.proofs.Common.{length}
use Rattle.calendar_match.proofs.begins.+dense_last.Given as goal

abbrev pub decreases-dense_last : goal.decreases-dense_last
decreases-dense_last l = length l.parts.now
