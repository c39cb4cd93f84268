-- The dates of the model's calendars are those of jiff.
use Rattle.std.proofs.Common.{◌≡◌, ℕ, zero, suc, ◌+◌, ◌-◌, ◌/◌, ◌%◌, ◌<◌, ◌≤◌, Bool, true, false, cond, ◌&&◌, nat_lt, get_or, [], ◌∷◌, refl, ap, ◌∙◌, arith, pos, inl, inr}
use Rattle.std.proofs.lemmas.Bool.{cases_lt}
use Rattle.std.proofs.lemmas.Bool.Decides.{nat_tests}
use Rattle.jiff_core.specs.Calendar.{days_of_years, days_of_months, day_count, days_from_civil, days_in_month}
use Rattle.jiff_core.proofs.SignedLemmas.{signed_arith}
use Rattle.jiff_core.proofs.MarchLemmas.{leap_day, days_in_year-leap_day, days_of_years-suc, days_of_years-march_days}
use Rattle.jiff_core.proofs.CalendarLemmas.{days_of_months_table, days_of_months_more, days_of_months_all, days_from_civil-day_count}
use Rattle.gtrbac_model.specs.Calendar.{is_leap, day_of_year, day_of_month, days_before_month}
use Rattle.gtrbac_model.proofs.Years.{leap, next_year}
use Rattle.gtrbac_model.proofs.Months.{month_days, month_days-zero, month_parts}

leap_same : (y : ℕ) → leap_day (pos (y + 10_000)) ≡ leap y
leap_same y = grind (arith, nat_tests)

pub leap_now : (y : ℕ) → leap_day (pos y) ≡ leap y
leap_now y = grind (arith, nat_tests)

-- ten thousand years have 3,652,425 days
pub years_same : (y : ℕ) → days_of_years (y + 10_000) ≡ day_of_year y + 3_652_425
years_same zero = omega (arith, days_of_years-march_days 10_000)
years_same (suc y) =
    let e : suc y + 10_000 ≡ suc (y + 10_000) = omega arith in
    let n : suc y ≡ y + 1 = omega arith in
    rw (e, n) (omega (arith, days_of_years-suc (y + 10_000), leap_same y, years_same y, next_year y))

table_same : (n l : ℕ) → n < 12 → get_or (0 ∷ 31 ∷ 59 ∷ 90 ∷ 120 ∷ 151 ∷ 181 ∷ 212 ∷ 243 ∷ 273 ∷ 304 ∷ 334 ∷ []) n 0 ≡ days_before_month n
table_same zero l h = refl
table_same (suc zero) l h = refl
table_same (suc (suc zero)) l h = refl
table_same (suc (suc (suc zero))) l h = refl
table_same (suc (suc (suc (suc zero)))) l h = refl
table_same (suc (suc (suc (suc (suc zero))))) l h = refl
table_same (suc (suc (suc (suc (suc (suc zero)))))) l h = refl
table_same (suc (suc (suc (suc (suc (suc (suc zero))))))) l h = refl
table_same (suc (suc (suc (suc (suc (suc (suc (suc zero)))))))) l h = refl
table_same (suc (suc (suc (suc (suc (suc (suc (suc (suc zero))))))))) l h = refl
table_same (suc (suc (suc (suc (suc (suc (suc (suc (suc (suc zero)))))))))) l h = refl
table_same (suc (suc (suc (suc (suc (suc (suc (suc (suc (suc (suc zero))))))))))) l h = refl
table_same (suc (suc (suc (suc (suc (suc (suc (suc (suc (suc (suc (suc n)))))))))))) l h = absurd (omega arith)

abbrev bit : Bool → ℕ
bit b = cond b 1 0

bits : (a b : Bool) → cond b (bit a) 0 ≡ bit (a && b)
bits true true = refl
bits true false = refl
bits false true = refl
bits false false = refl

pub months_same : (y n : ℕ) → n < 12 → days_of_months (pos y) n ≡ month_days y n
unfolding month_days
months_same y n h =
    let extra : cond (nat_lt 1 n) (leap_day (pos y)) 0 ≡ cond (is_leap y && nat_lt 1 n) 1 0 = ap (λ l. cond (nat_lt 1 n) l 0) (leap_now y) ∙ bits (is_leap y) (nat_lt 1 n) in
    omega (arith, days_of_months_table (pos y) n h, table_same n 0 h)

-- a month has as many days as jiff's
month_within : (y r : ℕ) → r < 11 → month_days y (r + 1) ≡ month_days y r + days_in_month (pos y) (r + 1)
month_within y r h =
    let back : r + 1 - 1 ≡ r = omega arith in
    omega (arith, months_same y r (omega arith), months_same y (r + 1) (omega arith), rw back at (days_of_months_more (pos y) (r + 1) (omega arith)))

december : (y : ℕ) → 365 + leap y ≡ month_days y 11 + days_in_month (pos y) 12
december y =
    omega (arith, months_same y 11 (omega arith), days_of_months_more (pos y) 12 (omega arith), days_of_months_all (pos y), days_in_year-leap_day (pos y), leap_now y)

length_within : (k y r : ℕ) → k / 12 ≡ y → k % 12 ≡ r → (k + 1) / 12 ≡ y → (k + 1) % 12 ≡ r + 1 → r < 11 → day_of_month (k + 1) ≡ day_of_month k + days_in_month (pos y) (r + 1)
length_within k y r a b c d h =
    rw (month_parts k, month_parts (k + 1), a, b, c, d) (omega (arith, month_within y r h))

length_december : (k y : ℕ) → k / 12 ≡ y → k % 12 ≡ 11 → (k + 1) / 12 ≡ y + 1 → (k + 1) % 12 ≡ 0 → day_of_month (k + 1) ≡ day_of_month k + days_in_month (pos y) 12
length_december k y a b c d =
    rw (month_parts k, month_parts (k + 1), a, b, c, d) (omega (arith, december y, month_days-zero (y + 1), next_year y))

pub month_length : (k y r : ℕ) → k / 12 ≡ y → k % 12 ≡ r → day_of_month (k + 1) ≡ day_of_month k + days_in_month (pos y) (r + 1)
month_length k y r a b =
    elim (cases_lt r 11) [
      | inl h ↦ length_within k y r a b (omega arith) (omega arith) h
      | inr h ↦ (let e : r ≡ 11 = omega arith in rw e (length_december k y a (b ∙ e) (omega arith) (omega arith)))
    ]

-- the days before a date, counted from the year -10000
pub day_count_is : (k y r d : ℕ) → k / 12 ≡ y → k % 12 ≡ r → 1 ≤ d → day_count (pos y) (r + 1) d + 1 ≡ day_of_month k + 3_652_425 + d
unfolding day_count
day_count_is k y r d a b h =
    let back : r + 1 - 1 ≡ r = omega arith in
    rw (back, month_parts k, a, b) (omega (arith, years_same y, months_same y r (omega arith)))

pub date_is : (k y r d n : ℕ) → k / 12 ≡ y → k % 12 ≡ r → 1 ≤ d → day_of_month k + d ≡ n + 730_486 → days_from_civil (pos y) (r + 1) d ≡ pos (n + 10_957)
date_is k y r d n a b h e =
    omega (arith, signed_arith, day_count_is k y r d a b h, days_from_civil-day_count (pos y) (r + 1) d)
