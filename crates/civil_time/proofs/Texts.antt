-- Each instant has one text, which gives it back.
use Rattle.std.proofs.Common.{◌≡◌, ◌≢◌, ◌↔◌, ℕ, ◌+◌, ◌-◌, ◌*◌, ◌/◌, ◌%◌, ◌<◌, ◌≤◌, Bool, true, false, ◌&&◌, List, length, bytes_eq, nat_eq, nat_le, Option, Some, None, IfNone, refl, ap, subst, sym, ◌∙◌, arith, pos, if◌then◌else◌}
use Rattle.std.proofs.lemmas.Bool.{and_parts, and_from, eq-eqb, leb-true, le-leb}
use Rattle.std.proofs.lemmas.Slice.Eq.{bytes_eq-Decides}
use Rattle.gt_base.specs.declared.limits.TheConstants.{LAST_MINUTE}
use Rattle.jiff_core.proofs.CalendarLemmas.{days_in_month_bounds}
use Rattle.gtrbac_model.specs.Calendar.{minute_of, day_of_month}
use Rattle.civil_time.specs.declared.civil.Civil.{Civil}
use Rattle.civil_time.specs.Minutes.{civil_at, IsMinute}
use Rattle.civil_time.specs.Text.{text_of_civil, civil_text, IsCivil, IsPrintable, two_at, candidate, civil_in}
use Rattle.civil_time.proofs.Stands.{stands, from_parts}

pub no_text : (text : List ℕ) → ((c : Civil) → IsMinute c → text ≢ text_of_civil c) → (t : ℕ) → t ≤ LAST_MINUTE → text ≢ civil_text t
no_text text h t le e = h (civil_at t) (stands t le).real e

pub none_read : (r : Option ℕ) (text : List ℕ) → IfNone r ((c : Civil) → IsMinute c → text ≢ text_of_civil c) → IfNone r ((t : ℕ) → t ≤ LAST_MINUTE → text ≢ civil_text t)
none_read None text h = no_text text h
none_read (Some t) text h = tt

printable : (t : ℕ) → t ≤ LAST_MINUTE → IsPrintable (civil_at t)
printable t h =
    let real = (stands t h).real in
    let long = days_in_month_bounds (pos (civil_at t).year) (civil_at t).month in
    record { year = omega arith; month = omega arith; day = omega arith; hour = omega arith; minute = omega arith }

digits : (n : ℕ) → n < 100 → 10 * (48 + n / 10 - 48) + (48 + n % 10 - 48) ≡ n
digits n h = omega arith

-- the parts of the text of a minute
record Parts (c : Civil) : Type 0 where
  century : two_at (text_of_civil c) 0 ≡ c.year / 100
  year : two_at (text_of_civil c) 2 ≡ c.year % 100
  month : two_at (text_of_civil c) 5 ≡ c.month
  day : two_at (text_of_civil c) 8 ≡ c.day
  hour : two_at (text_of_civil c) 11 ≡ c.hour
  minute : two_at (text_of_civil c) 14 ≡ c.minute

parts : (c : Civil) → IsPrintable c → Parts c
parts c p =
    let small = p.year in
    record {
      century = digits (c.year / 100) (omega arith);
      year = digits (c.year % 100) (omega arith);
      month = digits c.month p.month;
      day = digits c.day p.day;
      hour = digits c.hour p.hour;
      minute = digits c.minute p.minute;
    }

candidate_of : (c : Civil) (m : ℕ) → IsPrintable c → 1440 * (day_of_month (12 * c.year + c.month - 1) + c.day - 1) + 60 * c.hour + c.minute ≡ m → candidate (text_of_civil c) ≡ m - 1_051_898_400
candidate_of c m p e =
    let q = parts c p in
    let whole : 100 * (c.year / 100) + c.year % 100 ≡ c.year = omega arith in
    rw (q.century, q.year, q.month, q.day, q.hour, q.minute, whole) (omega arith)

back : (t : ℕ) → minute_of t - 1_051_898_400 ≡ t
back t = omega arith

pub candidate_is : (t : ℕ) → t ≤ LAST_MINUTE → candidate (civil_text t) ≡ t
candidate_is t h = candidate_of (civil_at t) (minute_of t) (printable t h) (from_parts t h) ∙ back t

pub one_text : (t u : ℕ) → t ≤ LAST_MINUTE → u ≤ LAST_MINUTE → civil_text t ≡ civil_text u → t ≡ u
one_text t u h k e = sym (candidate_is t h) ∙ ap candidate e ∙ candidate_is u k

-- what the test says
record Tested (text : List ℕ) : Type 0 where
  low : candidate text ≤ LAST_MINUTE
  same : text ≡ civil_text (candidate text)

abbrev is_civil : List ℕ → Bool
is_civil text = nat_eq (length text) 16 && nat_le (candidate text) LAST_MINUTE && bytes_eq (civil_text (candidate text)) text

tested : (text : List ℕ) → is_civil text ≡ true → Tested text
tested text h =
    let a = and_parts (nat_eq (length text) 16 && nat_le (candidate text) LAST_MINUTE) (bytes_eq (civil_text (candidate text)) text) h in
    let b = and_parts (nat_eq (length text) 16) (nat_le (candidate text) LAST_MINUTE) a.0 in
    record { low = leb-true (candidate text) LAST_MINUTE b.1; same = sym ((bytes_eq-Decides (civil_text (candidate text)) text).0 a.1) }

abbrev answer : Bool → ℕ → Option ℕ
answer b n = if b then Some n else None

reads : (text : List ℕ) (t : ℕ) (b : Bool) → is_civil text ≡ b → answer b (candidate text) ≡ Some t → IsCivil text t
reads text t true h e =
    let x = tested text h in
    let same : candidate text ≡ t = cc in
    (subst (λ (n : ℕ). n ≤ LAST_MINUTE) same x.low, subst (λ (n : ℕ). text ≡ civil_text n) same x.same)
reads text t false h e = absurd (no_answer e)
  where
    no_answer : answer false (candidate text) ≡ Some t → ⊥
    no_answer h = cc

is_read : (text : List ℕ) (t : ℕ) → t ≤ LAST_MINUTE → text ≡ civil_text t → is_civil text ≡ true
is_read text t h e =
    let same : candidate text ≡ t = ap candidate e ∙ candidate_is t h in
    let size : length text ≡ 16 = ap length e in
    let whole : civil_text (candidate text) ≡ text = ap (λ n. civil_text n) same ∙ sym e in
    and_from (nat_eq (length text) 16 && nat_le (candidate text) LAST_MINUTE) (bytes_eq (civil_text (candidate text)) text)
    (and_from (nat_eq (length text) 16) (nat_le (candidate text) LAST_MINUTE) (eq-eqb (length text) 16 size) (le-leb (candidate text) LAST_MINUTE (omega arith)))
    ((bytes_eq-Decides (civil_text (candidate text)) text).1 whole)

pub texts_are_read : (text : List ℕ) (t : ℕ) → (civil_in text ≡ Some t) ↔ IsCivil text t
texts_are_read text t = (reads text t (is_civil text) refl, λ (h, e). ap (λ b. answer b (candidate text)) (is_read text t h e) ∙ ap (λ n. Some n) (ap candidate e ∙ candidate_is t h))
