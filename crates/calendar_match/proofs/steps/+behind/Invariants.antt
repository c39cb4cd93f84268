use Rattle.std.proofs.Common.{length}
use Rattle.calendar_match.proofs.steps.+behind.Given as goal

abbrev pub decreases-behind : goal.decreases-behind
decreases-behind l = length l.parts.now
