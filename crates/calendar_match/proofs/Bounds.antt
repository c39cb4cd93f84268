-- The minutes that the searches meet stay below a bound, and numbers of intervals below their minutes.
use Rattle.std.proofs.Common.{ℕ, ◌+◌, ◌<◌, ◌≤◌, arith, inl, inr}
use Rattle.std.proofs.lemmas.Bool.{cases_lt}
use Rattle.gtrbac_model.specs.declared.calendars.Calendar.{Calendar}
use Rattle.gtrbac_model.specs.declared.calendars.Calendar.TheVariants.{Years, Months, Weeks, Days, Hours, Minutes}
use Rattle.gtrbac_model.specs.Calendar.{first_minute, interval_of}
use Rattle.gtrbac_model.proofs.Years.{year_bounds}
use Rattle.gtrbac_model.proofs.Months.{month_bounds}
use Rattle.gtrbac_model.proofs.Covers.{begun_if, covered_after, goes_on, not_falling}

pub starts_in : (c : Calendar) (m : ℕ) → m < 2_147_483_648 → first_minute c (interval_of c m) < 2_147_483_648
starts_in Years m h = omega (arith, begun_if Years m tt)
starts_in Months m h = omega (arith, begun_if Months m tt)
starts_in Weeks m h = omega arith
starts_in Days m h = omega arith
starts_in Hours m h = omega arith
starts_in Minutes m h = h

-- an interval has no greater number than its first minute
pub number_low : (c : Calendar) (k : ℕ) → k ≤ first_minute c k
number_low Years k = omega (arith, year_bounds k)
number_low Months k = omega (arith, month_bounds k)
number_low Weeks k = omega arith
number_low Days k = omega arith
number_low Hours k = omega arith
number_low Minutes k = omega arith

-- a later minute has no earlier interval
pub interval_not_falling : (c : Calendar) (a b : ℕ) → a ≤ b → interval_of c a ≤ interval_of c b
interval_not_falling c a b h =
    let i = interval_of c a in
    let j = interval_of c b in
    elim (cases_lt j i) [
      | inl lt ↦ absurd (omega (arith, begun_if c a (covered_after c a j lt), goes_on c b, not_falling c (j + 1) i (omega arith)))
      | inr ge ↦ ge
    ]
