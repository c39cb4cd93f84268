-- The civil minute of an instant stands for it.
use Rattle.std.proofs.Common.{◌≡◌, ℕ, ◌+◌, ◌-◌, ◌*◌, ◌/◌, ◌%◌, ◌<◌, ◌≤◌, refl, ap, sym, ◌∙◌, arith}
use Rattle.gt_base.specs.declared.limits.TheConstants.{LAST_MINUTE}
use Rattle.gtrbac_model.specs.declared.calendars.Calendar.TheVariants.{Years, Months, Days}
use Rattle.gtrbac_model.specs.Calendar.{minute_of, day_of_month, first_minute, interval_of, number_within}
use Rattle.gtrbac_model.proofs.Months.{january}
use Rattle.gtrbac_model.proofs.Covers.{begun, goes_on, at_first, before_first}
use Rattle.civil_time.specs.Minutes.{civil_at, StandsFor}
use Rattle.civil_time.proofs.Dates.{month_length, date_is}

-- the year and the month at a minute
record Within (m : ℕ) : Type 0 where
  year : interval_of Months m / 12 ≡ interval_of Years m
  month : number_within Years Months m ≡ interval_of Months m % 12 + 1

january_first : (y : ℕ) → first_minute Months (12 * y) ≡ first_minute Years y
january_first y = ap (λ d. 1440 * d) (january y)

within : (m : ℕ) → 2880 ≤ m → Within m
within m late =
    let y = interval_of Years m in
    let k = interval_of Months m in
    let low : 12 * y < k + 1 = before_first Months (12 * y) (k + 1) (omega (arith, january_first y, begun Years m late, goes_on Months m)) in
    let high : k < 12 * (y + 1) = before_first Months k (12 * (y + 1)) (omega (arith, january_first (y + 1), goes_on Years m, begun Months m late)) in
    let from : interval_of Months (first_minute Years y) ≡ 12 * y = ap (interval_of Months) (sym (january_first y)) ∙ at_first Months (12 * y) in
    record { year = omega arith; month = rw from (omega arith) }

-- the day of the month
day_is : (m d : ℕ) → 2880 ≤ m → m / 1440 ≡ d → number_within Months Days m + day_of_month (interval_of Months m) ≡ d + 1
day_is m d late e =
    let k = interval_of Months m in
    let start : 1440 * day_of_month k / 1440 ≡ day_of_month k = omega arith in
    let low : 1440 * day_of_month k ≤ m = begun Months m late in
    rw start (omega arith)

day_ends : (m d : ℕ) → m / 1440 ≡ d → d < day_of_month (interval_of Months m + 1)
day_ends m d e = let high : m < 1440 * day_of_month (interval_of Months m + 1) = goes_on Months m in omega arith

pub stands : (t : ℕ) → t ≤ LAST_MINUTE → StandsFor t (civil_at t)
unfolding civil_at
stands t h =
    let m = minute_of t in
    let y = interval_of Years m in
    let k = interval_of Months m in
    let late : 2880 ≤ m = omega arith in
    let w = within m late in
    let day = day_is m (730_485 + t / 1440) late (omega arith) in
    let ends = day_ends m (730_485 + t / 1440) (omega arith) in
    let long = month_length k y (k % 12) w.year refl in
    let month = w.month in
    let low : 2000 < y + 1 = before_first Years 2000 (y + 1) (omega (arith, goes_on Years m)) in
    let high : y < 2100 = before_first Years y 2100 (omega (arith, begun Years m late)) in
    record {
      real = record {
        year_low = omega arith;
        year_high = omega arith;
        month_low = omega arith;
        month_high = omega arith;
        day_low = omega arith;
        day_high = rw month (omega arith);
        hour = omega arith;
        minute = omega arith;
      };
      day = rw month (date_is k y (k % 12) (number_within Months Days m) (t / 1440) w.year refl (omega arith) (omega arith));
      time = omega arith;
    }

-- the place of an instant, from the parts of its civil minute
pub from_parts : (t : ℕ) → t ≤ LAST_MINUTE → 1440 * (day_of_month (12 * (civil_at t).year + (civil_at t).month - 1) + (civil_at t).day - 1) + 60 * (civil_at t).hour + (civil_at t).minute ≡ minute_of t
unfolding civil_at
from_parts t h =
    let m = minute_of t in
    let y = interval_of Years m in
    let k = interval_of Months m in
    let late : 2880 ≤ m = omega arith in
    let w = within m late in
    let day = day_is m (730_485 + t / 1440) late (omega arith) in
    let ends = day_ends m (730_485 + t / 1440) (omega arith) in
    let place : 12 * y + number_within Years Months m - 1 ≡ k = omega (arith, w.year, w.month) in
    rw place (omega arith)
