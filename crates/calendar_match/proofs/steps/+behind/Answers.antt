use Rattle.calendar_match.proofs.Passing.{behind_first}
use Rattle.calendar_match.proofs.steps.+behind.Goals as goal

pub returns-in-None : goal.returns-in-None
returns-in-None t c = rw (c.in-None.ensures, c.start_of.ensures) (behind_first c.args.above c.args.m c.requires.low)
