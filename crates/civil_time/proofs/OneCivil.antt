-- An instant has one civil minute, and a civil minute one instant.
use Rattle.std.proofs.Common.{◌≡◌, ℕ, ◌≤◌, pos, arith, sym, ◌∙◌, Result, Ok, Err, IfOk}
use Rattle.gt_base.specs.declared.limits.TheConstants.{LAST_MINUTE}
use Rattle.jiff_core.specs.declared.civil.date.Date.{Date}
use Rattle.jiff_core.proofs.DateLemmas.{epoch_day_injective}
use Rattle.jiff_core.proofs.SignedLemmas.{signed_arith}
use Rattle.civil_time.specs.declared.civil.Civil.{Civil}
use Rattle.civil_time.specs.declared.civil.NoSuchMinute.{NoSuchMinute}
use Rattle.civil_time.specs.Minutes.{civil_at, IsMinute, StandsFor}
use Rattle.civil_time.proofs.Stands.{stands}

-- the date of a minute
abbrev date_of : (c : Civil) → IsMinute c → Date
date_of c real = record {
  year = pos c.year;
  month = c.month;
  day = c.day;
  year_in = (omega (arith, signed_arith), omega (arith, signed_arith));
  month_in = (real.month_low, real.month_high);
  day_in = (real.day_low, real.day_high);
}

-- two minutes with the same parts are one
same_parts : (c d : Civil) → c.year ≡ d.year → c.month ≡ d.month → c.day ≡ d.day → c.hour ≡ d.hour → c.minute ≡ d.minute → c ≡ d
same_parts c d year month day hour minute =
    let of_parts : ℕ → ℕ → ℕ → ℕ → ℕ → Civil = λ y m e h n. record { year = y; month = m; day = e; hour = h; minute = n } in
    let same : of_parts c.year c.month c.day c.hour c.minute ≡ of_parts d.year d.month d.day d.hour d.minute = rw (year, month, day, hour, minute) in
    same

pub one_civil : (t : ℕ) (c d : Civil) → StandsFor t c → StandsFor t d → c ≡ d
one_civil t c d p q =
    let same = epoch_day_injective (date_of c p.real) (date_of d q.real) (p.day ∙ sym q.day) in
    let year : c.year ≡ d.year = omega (arith, signed_arith, same.0) in
    let hour : c.hour ≡ d.hour = omega arith in
    let minute : c.minute ≡ d.minute = omega arith in
    same_parts c d year same.1 same.2 hour minute

pub one_instant : (t u : ℕ) (c : Civil) → StandsFor t c → StandsFor u c → t ≡ u
one_instant t u c p q = omega (arith, signed_arith, p.day, q.day, p.time, q.time)

pub is_civil_at : (t : ℕ) (c : Civil) → StandsFor t c → t ≤ LAST_MINUTE → c ≡ civil_at t
is_civil_at t c p h = one_civil t c (civil_at t) p (stands t h)

pub instant_is : (r : Result ℕ NoSuchMinute) (c : Civil) → IfOk r (λ t. StandsFor t c) → IfOk r (λ t. t ≤ LAST_MINUTE) → IfOk r (λ t. c ≡ civil_at t)
instant_is (Ok t) c p h = is_civil_at t c p h
instant_is (Err e) c p h = tt
