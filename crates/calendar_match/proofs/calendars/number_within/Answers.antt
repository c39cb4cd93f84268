use Rattle.calendar_match.proofs.Bounds.{starts_in}
use Rattle.calendar_match.proofs.calendars.number_within.Goals as goal

pub interval_of-requires-3 : goal.interval_of-requires-3
interval_of-requires-3 c = rw (c.first_minute-from.ensures, c.interval_of.ensures.interval) (starts_in c.args.outer c.args.m c.requires)
