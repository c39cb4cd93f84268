-- Intervals of a lower calendar fill those of a higher one.
use Rattle.std.proofs.Common.{◌≡◌, ℕ, ◌+◌, ◌*◌, ◌<◌, ◌≤◌, true, ◌||◌, refl, arith, ap, sym, ◌∙◌, inl, inr}
use Rattle.std.proofs.lemmas.Bool.{false≢true, or_cases}
use Rattle.gtrbac_model.specs.declared.calendars.Calendar.{Calendar}
use Rattle.gtrbac_model.specs.declared.calendars.Calendar.TheVariants.{Years, Months, Weeks, Days, Hours, Minutes}
use Rattle.gtrbac_model.specs.Calendar.{day_of_year, day_of_month, first_minute, interval_of, number_within}
use Rattle.gtrbac_model.specs.Period.{IsNumber}
use Rattle.gtrbac_model.specs.Valid.{is_below, is_same}
use Rattle.gtrbac_model.proofs.Months.{january}
use Rattle.gtrbac_model.proofs.Downward.{same_unit}
use Rattle.gtrbac_model.proofs.Covers.{begun, goes_on, at_first, before_first}

-- each interval of the higher calendar begins with one of the lower
pub nested : (o i : Calendar) (k : ℕ) → is_below o i ≡ true → (j : ℕ) × (first_minute i j ≡ first_minute o k)
nested Years Months k h = (12 * k, ap (λ d. 1440 * d) (january k))
nested Years Days k h = (day_of_year k, refl)
nested Years Hours k h = (24 * day_of_year k, omega arith)
nested Years Minutes k h = (1440 * day_of_year k, refl)
nested Months Days k h = (day_of_month k, refl)
nested Months Hours k h = (24 * day_of_month k, omega arith)
nested Months Minutes k h = (1440 * day_of_month k, refl)
nested Weeks Days k h = (7 * k + 2, refl)
nested Weeks Hours k h = (24 * (7 * k + 2), omega arith)
nested Weeks Minutes k h = (1440 * (7 * k + 2), refl)
nested Days Hours k h = (24 * k, omega arith)
nested Days Minutes k h = (1440 * k, refl)
nested Hours Minutes k h = (60 * k, refl)
nested _ _ k h = absurd (false≢true h)

pub aligned : (o i : Calendar) (k : ℕ) → is_below o i ≡ true → first_minute i (interval_of i (first_minute o k)) ≡ first_minute o k
aligned o i k h =
    let n = nested o i k h in
    ap (λ m. first_minute i (interval_of i m)) (sym n.1) ∙ ap (first_minute i) (at_first i n.0) ∙ n.1

-- the number of the inner interval at a minute
pub is_number : (o i : Calendar) (m : ℕ) → is_below o i ≡ true → 2880 ≤ m → IsNumber o (interval_of o m) i (number_within o i m) (interval_of i m)
is_number o i m h late =
    let from = interval_of i (first_minute o (interval_of o m)) in
    let e = aligned o i (interval_of o m) h in
    let low = begun o m late in
    let high = goes_on i m in
    let le : from < interval_of i m + 1 = before_first i from (interval_of i m + 1) (omega arith) in
    record { first = from; aligned = e; counted = omega arith; positive = omega arith; below = omega (arith, begun i m late, goes_on o m) }

-- and so with the same calendar
pub aligned_unit : (c u : Calendar) (k : ℕ) → (is_same c u || is_below c u) ≡ true → first_minute u (interval_of u (first_minute c k)) ≡ first_minute c k
aligned_unit c u k h =
    elim (or_cases (is_same c u) (is_below c u) h) [
      | inl s ↦ rw (← same_unit c u s) (ap (first_minute c) (at_first c k))
      | inr b ↦ aligned c u k b
    ]
