-- How many intervals of a lower calendar an interval of a higher one has.
use Rattle.std.proofs.Common.{◌≡◌, ℕ, ◌+◌, ◌*◌, ◌/◌, ◌%◌, ◌<◌, ◌≤◌, true, ◌||◌, refl, arith, ap, sym, ◌∙◌, inl, inr}
use Rattle.std.proofs.lemmas.Bool.Decides.{nat_tests}
use Rattle.std.proofs.lemmas.Bool.{false≢true, cases_lt, or_cases}
use Rattle.gtrbac_model.specs.declared.calendars.Calendar.{Calendar}
use Rattle.gtrbac_model.specs.declared.calendars.Calendar.TheVariants.{Years, Months, Weeks, Days, Hours, Minutes}
use Rattle.gtrbac_model.specs.Calendar.{day_of_year, day_of_month, first_minute, interval_of, number_within}
use Rattle.gtrbac_model.specs.Valid.{is_below, is_same}
use Rattle.gtrbac_model.proofs.Years.{next_year, leap}
use Rattle.gtrbac_model.proofs.Months.{by_tests, month_days, month_parts, month_days-zero, january}
use Rattle.gtrbac_model.proofs.Covers.{one_first, before_first, at_first}
use Rattle.calendar_laws.proofs.Nested.{is_number}
use Rattle.gtrbac_model.proofs.Downward.{same_unit}
use Rattle.calendar_match.specs.Steps.{most_in}

leap_most : (y : ℕ) → leap y ≤ 1
leap_most y = grind (arith, nat_tests)

month_days-most : (y r : ℕ) → r < 11 → month_days y (r + 1) ≤ month_days y r + 31
unfolding month_days
month_days-most y r h = rw (by_tests r (omega arith), by_tests (r + 1) (omega arith)) (grind (arith, nat_tests))

december : (y r : ℕ) → r ≡ 11 → 365 + leap y ≤ month_days y r + 31
unfolding month_days
december y r e = rw e (grind (arith, nat_tests))

within_year : (k y r : ℕ) → k / 12 ≡ y → k % 12 ≡ r → (k + 1) / 12 ≡ y → (k + 1) % 12 ≡ r + 1 → r < 11 → day_of_month (k + 1) ≤ day_of_month k + 31
within_year k y r a b c d h =
    rw (month_parts k, month_parts (k + 1), a, b, c, d) (omega (arith, month_days-most y r h))

across_years : (k y r : ℕ) → k / 12 ≡ y → k % 12 ≡ r → (k + 1) / 12 ≡ y + 1 → (k + 1) % 12 ≡ 0 → r ≡ 11 → day_of_month (k + 1) ≤ day_of_month k + 31
across_years k y r a b c d h =
    rw (month_parts k, month_parts (k + 1), a, b, c, d) (omega (arith, december y r h, next_year y, month_days-zero (y + 1)))

month_most : (k : ℕ) → day_of_month (k + 1) ≤ day_of_month k + 31
month_most k =
    elim (cases_lt (k % 12) 11) [
      | inl h ↦ within_year k (k / 12) (k % 12) refl refl (omega arith) (omega arith) h
      | inr h ↦ across_years k (k / 12) (k % 12) refl refl (omega arith) (omega arith) (omega arith)
    ]

-- an interval of the outer calendar begins with the first, and ends before the next
record Span (o i : Calendar) (k : ℕ) : Type 0 where
  first : ℕ
  next : ℕ
  from : first_minute i first ≡ first_minute o k
  to : first_minute i next ≡ first_minute o (k + 1)
  most : next ≤ first + most_in o i

span : (o i : Calendar) (k : ℕ) → is_below o i ≡ true → Span o i k
span Years Months k h = record { first = 12 * k; next = 12 * (k + 1); from = ap (λ d. 1440 * d) (january k); to = ap (λ d. 1440 * d) (january (k + 1)); most = omega arith }
span Years Days k h = record { first = day_of_year k; next = day_of_year (k + 1); from = refl; to = refl; most = omega (arith, next_year k, leap_most k) }
span Years Hours k h = record { first = 24 * day_of_year k; next = 24 * day_of_year (k + 1); from = omega arith; to = omega arith; most = omega (arith, next_year k, leap_most k) }
span Years Minutes k h = record { first = 1440 * day_of_year k; next = 1440 * day_of_year (k + 1); from = refl; to = refl; most = omega (arith, next_year k, leap_most k) }
span Months Days k h = record { first = day_of_month k; next = day_of_month (k + 1); from = refl; to = refl; most = omega (arith, month_most k) }
span Months Hours k h = record { first = 24 * day_of_month k; next = 24 * day_of_month (k + 1); from = omega arith; to = omega arith; most = omega (arith, month_most k) }
span Months Minutes k h = record { first = 1440 * day_of_month k; next = 1440 * day_of_month (k + 1); from = refl; to = refl; most = omega (arith, month_most k) }
span Weeks Days k h = record { first = 7 * k + 2; next = 7 * (k + 1) + 2; from = refl; to = refl; most = omega arith }
span Weeks Hours k h = record { first = 24 * (7 * k + 2); next = 24 * (7 * (k + 1) + 2); from = omega arith; to = omega arith; most = omega arith }
span Weeks Minutes k h = record { first = 1440 * (7 * k + 2); next = 1440 * (7 * (k + 1) + 2); from = refl; to = refl; most = omega arith }
span Days Hours k h = record { first = 24 * k; next = 24 * (k + 1); from = omega arith; to = omega arith; most = omega arith }
span Days Minutes k h = record { first = 1440 * k; next = 1440 * (k + 1); from = refl; to = refl; most = omega arith }
span Hours Minutes k h = record { first = 60 * k; next = 60 * (k + 1); from = refl; to = refl; most = omega arith }
span _ _ k h = absurd (false≢true h)

pub number_most : (o i : Calendar) (m : ℕ) → is_below o i ≡ true → 2880 ≤ m → number_within o i m ≤ most_in o i
number_most o i m h late =
    let n = is_number o i m h late in
    let s = span o i (interval_of o m) h in
    let counted = n.counted in
    let most = s.most in
    let first : n.first ≡ s.first = one_first i n.first s.first (n.aligned ∙ sym s.from) in
    let before : interval_of i m < s.next = before_first i (interval_of i m) s.next (omega (arith, n.below, s.to)) in
    omega arith

one_in : (c : Calendar) → most_in c c ≡ 1
one_in Years = refl
one_in Months = refl
one_in Weeks = refl
one_in Days = refl
one_in Hours = refl
one_in Minutes = refl

number_one : (c : Calendar) (m : ℕ) → number_within c c m ≡ 1
number_one c m = rw (at_first c (interval_of c m)) (omega arith)

-- and so within the same calendar
pub number_most_unit : (c u : Calendar) (m : ℕ) → (is_same c u || is_below c u) ≡ true → 2880 ≤ m → number_within c u m ≤ most_in c u
number_most_unit c u m h late =
    elim (or_cases (is_same c u) (is_below c u) h) [
      | inl s ↦ rw (← same_unit c u s) (omega (arith, one_in c, number_one c m))
      | inr b ↦ number_most c u m b late
    ]
