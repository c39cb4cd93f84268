-- Civil minutes of the years 2000 to 2099.
use Rattle.std.specs.Prelude.{◌≡◌, ℕ, ◌+◌, ◌*◌, ◌/◌, ◌%◌, ◌≤◌, ◌<◌, pos}
use Rattle.jiff_core.specs.Calendar.{days_from_civil, days_in_month}
use Rattle.gtrbac_model.specs.declared.calendars.Calendar.TheVariants.{Years, Months, Days}
use Rattle.gtrbac_model.specs.Calendar.{minute_of, day_of, interval_of, number_within}
use Rattle.civil_time.specs.declared.civil.Civil.{Civil}

-- the date and the time of day of an instant, by the calendars of the model
unfoldable pub civil_at : ℕ → Civil
civil_at t = record {
  year = interval_of Years (minute_of t);
  month = number_within Years Months (minute_of t);
  day = number_within Months Days (minute_of t);
  hour = t % 1440 / 60;
  minute = t % 60;
}

-- the calendar has this minute, in a year from 2000 to 2099
pub record IsMinute (c : Civil) : Type 0 where
  pub year_low : 2000 ≤ c.year
  pub year_high : c.year ≤ 2099
  pub month_low : 1 ≤ c.month
  pub month_high : c.month ≤ 12
  pub day_low : 1 ≤ c.day
  pub day_high : c.day ≤ days_in_month (pos c.year) c.month
  pub hour : c.hour < 24
  pub minute : c.minute < 60

-- the minute t is this minute of jiff's calendar: 2000-01-01 is its day 10,957, from 1970-01-01
pub record StandsFor (t : ℕ) (c : Civil) : Type 0 where
  pub real : IsMinute c
  pub day : days_from_civil (pos c.year) c.month c.day ≡ pos (day_of t + 10_957)
  pub time : t % 1440 ≡ c.hour * 60 + c.minute
