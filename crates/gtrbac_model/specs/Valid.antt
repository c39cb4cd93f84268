-- Which expressions and periods are valid.
use Rattle.std.specs.Prelude.{ℕ, Bool, true, false, ◌&&◌, ◌||◌, not, List, [], ◌∷◌, nat_le, nat_lt, Option, Some, None, is_some}
use Rattle.std.specs.List.{list_all}
use Rattle.gt_base.specs.declared.limits.TheConstants.{LAST_MINUTE, MAX_LENGTH}
use Rattle.gtrbac_model.specs.declared.calendars.Calendar.{Calendar}
use Rattle.gtrbac_model.specs.declared.calendars.Calendar.TheVariants.{Years, Months, Weeks, Days, Hours, Minutes}
use Rattle.gtrbac_model.specs.Period.{Part, Expr, Period}

-- the second calendar stands strictly below the first: years, months, days, hours, minutes, or
-- weeks, days, hours, minutes
abbrev pub is_below : Calendar → Calendar → Bool
is_below Years Months = true
is_below Years Days = true
is_below Years Hours = true
is_below Years Minutes = true
is_below Months Days = true
is_below Months Hours = true
is_below Months Minutes = true
is_below Weeks Days = true
is_below Weeks Hours = true
is_below Weeks Minutes = true
is_below Days Hours = true
is_below Days Minutes = true
is_below Hours Minutes = true
is_below _ _ = false

abbrev pub is_same : Calendar → Calendar → Bool
is_same Years Years = true
is_same Months Months = true
is_same Weeks Weeks = true
is_same Days Days = true
is_same Hours Hours = true
is_same Minutes Minutes = true
is_same _ _ = false

-- each is greater than the one before it
abbrev pub rises_above : ℕ → List ℕ → Bool
rises_above n [] = true
rises_above n (m ∷ ms) = nat_lt n m && rises_above m ms

-- all, or some positive numbers of at most nine digits, ascending without repeats
abbrev pub is_set : Option (List ℕ) → Bool
is_set None = true
is_set (Some []) = false
is_set (Some (n ∷ ns)) = rises_above 0 (n ∷ ns) && list_all (λ m. nat_le m 999_999_999) (n ∷ ns)

-- each part stands below the one before it, and the unit of the length is the last part's calendar
-- or stands below it
abbrev pub goes_down : Calendar → List Part → Calendar → Bool
goes_down above [] unit = is_same above unit || is_below above unit
goes_down above (p ∷ ps) unit = is_set p.set && is_below above p.calendar
    && goes_down p.calendar ps unit

abbrev pub from_all : List Part → Calendar → Bool
from_all [] unit = false
from_all (p ∷ ps) unit = not (is_some p.set) && goes_down p.calendar ps unit

-- the first part takes all, the others go down from it, and the length is 1 to 1,000
abbrev pub is_expr : Expr → Bool
is_expr e = from_all e.parts e.unit && nat_le 1 e.count && nat_le e.count MAX_LENGTH

abbrev pub is_period : Period → Bool
is_period p = nat_le p.first p.last && nat_le p.last LAST_MINUTE && is_expr p.expr
