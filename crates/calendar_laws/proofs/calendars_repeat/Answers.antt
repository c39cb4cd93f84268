use Rattle.std.proofs.Common.{refl}
use Rattle.gtrbac_model.proofs.Years.{year_cycle}
use Rattle.gtrbac_model.proofs.Months.{month_cycle}
use Rattle.calendar_laws.proofs.calendars_repeat.Goals as goal

pub returns : goal.returns
returns c = record { years = year_cycle; months = month_cycle; weeks = refl }
