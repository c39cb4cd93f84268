-- The computed definitions of periodic times against the relations.
use Rattle.std.specs.Prelude.{◌≡◌, ◌↔◌, ℕ, ◌+◌, ◌*◌, ◌/◌, ◌%◌, ◌≤◌, IsTrue}
use Rattle.gtrbac_model.specs.Calendar.{minute_of, day_of, first_minute, interval_of, day_of_year}
use Rattle.gtrbac_model.specs.Calendar.{day_of_month}
use Rattle.gtrbac_model.specs.Period.{Expr, Period, begins, starts, inside, in_bounds, Begin, End, In}
use Rattle.gtrbac_model.specs.Valid.{is_expr}
use Rattle.gtrbac_model.specs.Selects.{last_calendar}

-- the instant is within the bounds, and the expression begins at its minute
abbrev pub Start : Period → ℕ → Type 0
Start p t = IsTrue (in_bounds p t) × Begin p.expr (minute_of t)

-- `begins`, `starts` and `inside` hold exactly where the relations do
pub record PeriodsMean : Type 0 where
  pub begins_are : (e : Expr) (t : ℕ) → IsTrue (is_expr e)
      → IsTrue (begins e (minute_of t)) ↔ Begin e (minute_of t)
  pub starts_are : (p : Period) (t : ℕ) → IsTrue (is_expr p.expr) → IsTrue (starts p t) ↔ Start p t
  pub insides_are : (p : Period) (t : ℕ) → IsTrue (is_expr p.expr) → IsTrue (inside p t) ↔ In p t

-- a later begin never has an earlier end
abbrev pub EndsDoNotCross : Type 0
EndsDoNotCross = (e : Expr) (s s' m m' : ℕ) → End e s m → End e s' m' → s ≤ s' → m ≤ m'

-- an expression begins at first minutes of its last calendar alone
abbrev pub BeginsAtFirsts : Type 0
BeginsAtFirsts = (e : Expr) (m : ℕ) → IsTrue (begins e m)
    → first_minute (last_calendar e) (interval_of (last_calendar e) m) ≡ m

-- the calendars come back after 400 years: 146,097 days, 4,800 months, 20,871 weeks
pub record CalendarsRepeat : Type 0 where
  pub years : (y : ℕ) → day_of_year (y + 400) ≡ day_of_year y + 146_097
  pub months : (k : ℕ) → day_of_month (k + 4800) ≡ day_of_month k + 146_097
  pub weeks : 7 * 20_871 ≡ 146_097

-- the minute of an instant has the day and the minute of the day of the instant; day 730,485 from
-- 0000-01-01 is 2000-01-01
pub record MinutesOfDays : Type 0 where
  pub day : (t : ℕ) → minute_of t / 1440 ≡ 730_485 + day_of t
  pub time : (t : ℕ) → minute_of t % 1440 ≡ t % 1440
