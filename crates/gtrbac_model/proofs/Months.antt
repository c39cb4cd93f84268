-- The days on which months begin.
use Rattle.std.proofs.Common.{◌≡◌, ℕ, zero, suc, ◌+◌, ◌*◌, ◌/◌, ◌%◌, ◌<◌, ◌≤◌, cond, ◌&&◌, nat_lt, refl, arith, inl, inr}
use Rattle.std.proofs.lemmas.Bool.Decides.{nat_tests}
use Rattle.std.proofs.lemmas.Bool.{cases_lt}
use Rattle.gtrbac_model.specs.Calendar.{is_leap, day_of_year, days_before_month, day_of_month}
use Rattle.gtrbac_model.proofs.Years.{year_bounds, next_year, year_cycle, leap}

-- the table, as tests
pub by_tests : (m : ℕ) → m < 12 → days_before_month m ≡ cond (nat_lt m 1) 0 (cond (nat_lt m 2) 31 (cond (nat_lt m 3) 59 (cond (nat_lt m 4) 90 (cond (nat_lt m 5) 120 (cond (nat_lt m 6) 151 (cond (nat_lt m 7) 181 (cond (nat_lt m 8) 212 (cond (nat_lt m 9) 243 (cond (nat_lt m 10) 273 (cond (nat_lt m 11) 304 334))))))))))
by_tests zero h = refl
by_tests (suc zero) h = refl
by_tests (suc (suc zero)) h = refl
by_tests (suc (suc (suc zero))) h = refl
by_tests (suc (suc (suc (suc zero)))) h = refl
by_tests (suc (suc (suc (suc (suc zero))))) h = refl
by_tests (suc (suc (suc (suc (suc (suc zero)))))) h = refl
by_tests (suc (suc (suc (suc (suc (suc (suc zero))))))) h = refl
by_tests (suc (suc (suc (suc (suc (suc (suc (suc zero)))))))) h = refl
by_tests (suc (suc (suc (suc (suc (suc (suc (suc (suc zero))))))))) h = refl
by_tests (suc (suc (suc (suc (suc (suc (suc (suc (suc (suc zero)))))))))) h = refl
by_tests (suc (suc (suc (suc (suc (suc (suc (suc (suc (suc (suc zero))))))))))) h = refl
by_tests (suc (suc (suc (suc (suc (suc (suc (suc (suc (suc (suc (suc n)))))))))))) h = absurd (omega arith)

-- 30.436875 days a month, with three days less or one more
pub table_bounds : (r : ℕ) → r < 12 → (146_097 * r ≤ 4800 * days_before_month r + 10_560) × (4800 * days_before_month r ≤ 146_097 * r + 2736)
table_bounds r h = rw (by_tests r h) (grind (arith, nat_tests))

pub month_bounds : (k : ℕ) → (146_097 * k ≤ 4800 * day_of_month k + 15_360) × (4800 * day_of_month k ≤ 146_097 * k + 15_936)
month_bounds k =
    let h : k % 12 < 12 = omega arith in
    let table = table_bounds (k % 12) h in
    let years = year_bounds (k / 12) in
    let more : cond (is_leap (k / 12) && nat_lt 1 (k % 12)) 1 0 ≤ 1 = grind arith in
    (omega arith, omega arith)

-- the days of a year before its month r, from 0
unfoldable pub month_days : ℕ → ℕ → ℕ
month_days y r = days_before_month r + cond (is_leap y && nat_lt 1 r) 1 0

pub month_parts : (k : ℕ) → day_of_month k ≡ day_of_year (k / 12) + month_days (k / 12) (k % 12)
unfolding month_days
month_parts k = omega arith

pub month_days-zero : (y : ℕ) → month_days y 0 ≡ 0
unfolding month_days
month_days-zero y = grind arith

month_days-rise : (y r : ℕ) → r < 11 → month_days y r < month_days y (r + 1)
unfolding month_days
month_days-rise y r h = rw (by_tests r (omega arith), by_tests (r + 1) (omega arith)) (grind (arith, nat_tests))

month_days-end : (y r : ℕ) → r < 12 → month_days y r < 365 + leap y
unfolding month_days
month_days-end y r h = rw (by_tests r h) (grind (arith, nat_tests))

leap_cycle : (y : ℕ) → is_leap (y + 400) ≡ is_leap y
leap_cycle y = grind (arith, nat_tests)

month_days-cycle : (y r : ℕ) → month_days (y + 400) r ≡ month_days y r
unfolding month_days
month_days-cycle y r = rw (leap_cycle y) refl

-- the year and the month of the next month
within_year : (k y r : ℕ) → k / 12 ≡ y → k % 12 ≡ r → (k + 1) / 12 ≡ y → (k + 1) % 12 ≡ r + 1 → r < 11 → day_of_month k < day_of_month (k + 1)
within_year k y r a b c d h =
    rw (month_parts k, month_parts (k + 1), a, b, c, d) (omega (arith, month_days-rise y r h))

across_years : (k y r : ℕ) → k / 12 ≡ y → k % 12 ≡ r → (k + 1) / 12 ≡ y + 1 → (k + 1) % 12 ≡ 0 → r < 12 → day_of_month k < day_of_month (k + 1)
across_years k y r a b c d h =
    rw (month_parts k, month_parts (k + 1), a, b, c, d) (omega (arith, month_days-end y r h, next_year y))

pub next_month : (k : ℕ) → day_of_month k < day_of_month (k + 1)
next_month k =
    elim (cases_lt (k % 12) 11) [
      | inl h ↦ within_year k (k / 12) (k % 12) refl refl (omega arith) (omega arith) h
      | inr h ↦ across_years k (k / 12) (k % 12) refl refl (omega arith) (omega arith) (omega arith)
    ]

-- the first month of a year begins with the year
pub january : (y : ℕ) → day_of_month (12 * y) ≡ day_of_year y
january y =
    let a : 12 * y / 12 ≡ y = omega arith in
    let b : 12 * y % 12 ≡ 0 = omega arith in
    rw (month_parts (12 * y), a, b) (omega (arith, month_days-zero y))

pub month_cycle : (k : ℕ) → day_of_month (k + 4800) ≡ day_of_month k + 146_097
month_cycle k =
    let a : (k + 4800) / 12 ≡ k / 12 + 400 = omega arith in
    let b : (k + 4800) % 12 ≡ k % 12 = omega arith in
    rw (month_parts k, month_parts (k + 4800), a, b) (omega (arith, year_cycle (k / 12), month_days-cycle (k / 12) (k % 12)))
