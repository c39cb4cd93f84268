-- Each minute lies in just one interval of each calendar.
use Rattle.std.proofs.Common.{◌≡◌, ℕ, zero, suc, ◌+◌, ◌-◌, ◌*◌, ◌/◌, ◌<◌, ◌≤◌, nat_lt, nat_le, refl, arith, ap, sym, ◌∙◌, inl, inr}
use Rattle.std.proofs.lemmas.Bool.{cases_order, cases_lt}
use Rattle.gtrbac_model.specs.declared.calendars.Calendar.{Calendar}
use Rattle.gtrbac_model.specs.declared.calendars.Calendar.TheVariants.{Years, Months, Weeks, Days, Hours, Minutes}
use Rattle.gtrbac_model.specs.Calendar.{day_of_year, day_of_month, first_minute, interval_of}
use Rattle.gtrbac_model.proofs.Years.{year_bounds, next_year}
use Rattle.gtrbac_model.proofs.Months.{month_bounds, next_month}
use Rattle.gtrbac_model.proofs.Guess.{mended-begun, mended-goes_on}

next_first : (c : Calendar) (k : ℕ) → first_minute c k < first_minute c (k + 1)
next_first Years k = omega (arith, next_year k)
next_first Months k = omega (arith, next_month k)
next_first Weeks k = omega arith
next_first Days k = omega arith
next_first Hours k = omega arith
next_first Minutes k = omega arith

-- d more intervals
further : (c : Calendar) (j d : ℕ) → first_minute c j < first_minute c (j + suc d)
further c j zero = let e : j + suc zero ≡ j + 1 = omega arith in rw e (next_first c j)
further c j (suc d) =
    let e : j + suc (suc d) ≡ j + suc d + 1 = omega arith in
    rw e (omega (arith, further c j d, next_first c (j + suc d)))

pub rising : (c : Calendar) (j k : ℕ) → j < k → first_minute c j < first_minute c k
rising c j k h =
    let e : j + suc (k - j - 1) ≡ k = omega arith in
    rw e at (further c j (k - j - 1))

year_before : (g d m : ℕ) → 146_097 * g ≤ 400 * d → 1440 * d ≤ m → 1440 * day_of_year (g - 1) ≤ m
year_before zero d m h k = omega arith
year_before (suc g) d m h k = let e : suc g - 1 ≡ g = omega arith in rw e (let b = year_bounds g in omega arith)

year_after : (g d m : ℕ) → 400 * d < 146_097 * (g + 1) → m < 1440 * (d + 1) → m < 1440 * day_of_year (g + 1 + 1)
year_after g d m h k = let b = year_bounds (g + 1 + 1) in omega arith

month_before : (g d m : ℕ) → 146_097 * g ≤ 4800 * d → 1440 * d ≤ m → 1440 * day_of_month (g - 1) ≤ m
month_before zero d m h k = omega arith
month_before (suc g) d m h k = let e : suc g - 1 ≡ g = omega arith in rw e (let b = month_bounds g in omega arith)

month_after : (g d m : ℕ) → 4800 * d < 146_097 * (g + 1) → m < 1440 * (d + 1) → m < 1440 * day_of_month (g + 1 + 1)
month_after g d m h k = let b = month_bounds (g + 1 + 1) in omega arith

-- a week wants the first Monday
abbrev pub IsCovered : Calendar → ℕ → Type 0
IsCovered Weeks m = 2880 ≤ m
IsCovered _ m = Unit {0}

pub begun_if : (c : Calendar) (m : ℕ) → IsCovered c m → first_minute c (interval_of c m) ≤ m
begun_if Years m h =
    let g = m / 1440 * 400 / 146_097 in
    mended-begun (first_minute Years) g m (year_before g (m / 1440) m (omega arith) (omega arith)) (nat_lt m (first_minute Years g)) (nat_le (first_minute Years (g + 1)) m) refl refl
begun_if Months m h =
    let g = m / 1440 * 4800 / 146_097 in
    mended-begun (first_minute Months) g m (month_before g (m / 1440) m (omega arith) (omega arith)) (nat_lt m (first_minute Months g)) (nat_le (first_minute Months (g + 1)) m) refl refl
begun_if Weeks m h = omega arith
begun_if Days m h = omega arith
begun_if Hours m h = omega arith
begun_if Minutes m h = omega arith

covered : (c : Calendar) (m : ℕ) → 2880 ≤ m → IsCovered c m
covered Years m h = tt
covered Months m h = tt
covered Weeks m h = h
covered Days m h = tt
covered Hours m h = tt
covered Minutes m h = tt

pub covered_after : (c : Calendar) (m k : ℕ) → k < interval_of c m → IsCovered c m
covered_after Years m k h = tt
covered_after Months m k h = tt
covered_after Weeks m k h = omega arith
covered_after Days m k h = tt
covered_after Hours m k h = tt
covered_after Minutes m k h = tt

pub begun : (c : Calendar) (m : ℕ) → 2880 ≤ m → first_minute c (interval_of c m) ≤ m
begun c m h = begun_if c m (covered c m h)

pub goes_on : (c : Calendar) (m : ℕ) → m < first_minute c (interval_of c m + 1)
goes_on Years m =
    let g = m / 1440 * 400 / 146_097 in
    mended-goes_on (first_minute Years) g m (year_after g (m / 1440) m (omega arith) (omega arith)) refl (nat_lt m (first_minute Years g)) (nat_le (first_minute Years (g + 1)) m) refl refl
goes_on Months m =
    let g = m / 1440 * 4800 / 146_097 in
    mended-goes_on (first_minute Months) g m (month_after g (m / 1440) m (omega arith) (omega arith)) refl (nat_lt m (first_minute Months g)) (nat_le (first_minute Months (g + 1)) m) refl refl
goes_on Weeks m = omega arith
goes_on Days m = omega arith
goes_on Hours m = omega arith
goes_on Minutes m = omega arith

pub not_falling : (c : Calendar) (j k : ℕ) → j ≤ k → first_minute c j ≤ first_minute c k
not_falling c j k h =
    elim (cases_lt j k) [
      | inl lt ↦ omega (arith, rising c j k lt)
      | inr ge ↦ (let e : j ≡ k = omega arith in rw e (omega arith))
    ]

-- the intervals rise, so the one that has the minute is the only one
pub only : (c : Calendar) (m k : ℕ) → first_minute c k ≤ m → m < first_minute c (k + 1) → interval_of c m ≡ k
only c m k a b =
    elim (cases_order (interval_of c m) k) [
      | inl e ↦ e
      | inr (inl lt) ↦ absurd (omega (arith, goes_on c m, not_falling c (interval_of c m + 1) k (omega arith)))
      | inr (inr gt) ↦ absurd (omega (arith, begun_if c m (covered_after c m k gt), not_falling c (k + 1) (interval_of c m) (omega arith)))
    ]

-- the interval at its own first minute
pub at_first : (c : Calendar) (k : ℕ) → interval_of c (first_minute c k) ≡ k
at_first c k = only c (first_minute c k) k (omega arith) (rising c k (k + 1) (omega arith))

-- a first minute tells its interval
pub one_first : (c : Calendar) (j k : ℕ) → first_minute c j ≡ first_minute c k → j ≡ k
one_first c j k e = sym (at_first c j) ∙ ap (interval_of c) e ∙ at_first c k

pub before_first : (c : Calendar) (j k : ℕ) → first_minute c j < first_minute c k → j < k
before_first c j k h = elim (cases_lt j k) [ inl lt ↦ lt | inr ge ↦ absurd (omega (arith, not_falling c k j ge)) ]
