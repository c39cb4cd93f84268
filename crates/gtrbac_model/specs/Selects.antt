-- The calendar of the last part of an expression.
use Rattle.std.specs.Prelude.{List, [], ◌∷◌}
use Rattle.gtrbac_model.specs.declared.calendars.Calendar.{Calendar}
use Rattle.gtrbac_model.specs.declared.calendars.Calendar.TheVariants.{Minutes}
use Rattle.gtrbac_model.specs.Period.{Part, Expr}

-- the calendar of the last part
abbrev pub last_of : Calendar → List Part → Calendar
last_of c [] = c
last_of c (p ∷ ps) = last_of p.calendar ps

abbrev pub last_by : List Part → Calendar
last_by [] = Minutes
last_by (p ∷ ps) = last_of p.calendar ps

abbrev pub last_calendar : Expr → Calendar
last_calendar e = last_by e.parts
