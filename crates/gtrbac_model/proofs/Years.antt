-- The days on which years begin.
use Rattle.std.proofs.Common.{◌≡◌, ℕ, ◌+◌, ◌*◌, ◌≤◌, cond, arith}
use Rattle.std.proofs.lemmas.Bool.Decides.{nat_tests}
use Rattle.gtrbac_model.specs.Calendar.{is_leap, day_of_year}

-- 365.2425 days a year, with less than one day less or two days more
pub year_bounds : (y : ℕ) → (146_097 * y ≤ 400 * day_of_year y + 400) × (400 * day_of_year y ≤ 146_097 * y + 700)
year_bounds y = (omega arith, omega arith)

-- 1 for a leap year, and else 0
abbrev pub leap : ℕ → ℕ
leap y = cond (is_leap y) 1 0

pub next_year : (y : ℕ) → day_of_year (y + 1) ≡ day_of_year y + 365 + leap y
next_year y = grind (arith, nat_tests)

-- four hundred years have as many days as any other four hundred
pub year_cycle : (y : ℕ) → day_of_year (y + 400) ≡ day_of_year y + 146_097
year_cycle y = omega arith
