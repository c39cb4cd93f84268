-- What the searches for begins have seen, and what the last begin covers.
use Rattle.std.proofs.Common.{◌≡◌, ℕ, ◌+◌, ◌-◌, ◌<◌, ◌≤◌, true, false, not, nat_eq, nat_le, List, [], ◌∷◌, Option, Some, None, is_some, refl, arith, ap, sym, ◌∙◌, inl, inr}
use Rattle.std.specs.List.{list_any}
use Rattle.std.proofs.lemmas.Bool.{false_from_ne_true, false≢true, cases_lt, and_parts, and_cases, and_left, and_right, or_parts, or_from, ne_eqb, leb-false}
use Rattle.gtrbac_model.specs.declared.calendars.Calendar.{Calendar}
use Rattle.gtrbac_model.specs.declared.calendars.Calendar.TheVariants.{Years, Months, Weeks, Days, Hours, Minutes}
use Rattle.gtrbac_model.specs.Calendar.{first_minute, interval_of, number_within}
use Rattle.gtrbac_model.specs.Period.{Part, Expr, picks, selects, begins_by, begins, begun_within}
use Rattle.gtrbac_model.specs.Valid.{goes_down, from_all, is_expr}
use Rattle.gtrbac_model.specs.Selects.{last_calendar}
use Rattle.gtrbac_model.proofs.Covers.{goes_on, rising, not_falling, before_first}
use Rattle.calendar_laws.proofs.Begins.{valid, begins_at_firsts, unit_aligned}
use Rattle.calendar_laws.proofs.Insides.{found, finds, late, thousand, early}
use Rattle.gtrbac_model.proofs.Downward.{lower}
use Rattle.calendar_match.specs.Reach.{unit_first, IsLastBegin, HasNoBegin, IsCovered}
use Rattle.calendar_match.specs.Steps.{IsAhead, IsBehind, most_in, has_upto, can_select, can_begin_by, can_begin}
use Rattle.calendar_match.proofs.Bounds.{number_low}
use Rattle.calendar_match.proofs.Spans.{number_most}

-- the searches

pub search_more : (e : Expr) (from m r : ℕ) → HasNoBegin e from m → IsAhead (begins e) m r → HasNoBegin e from r
search_more e from m r seen a u low lt =
    elim (cases_lt u m) [ inl before ↦ seen u low before | inr ge ↦ a.passed u ge lt ]

pub search_less : (e : Expr) (m r end : ℕ) → HasNoBegin e (m + 1) end → IsBehind (begins e) m r → HasNoBegin e (r + 1) end
search_less e m r end seen a u low lt =
    elim (cases_lt m u) [ inl after ↦ seen u (omega arith) lt | inr le ↦ a.passed u (omega arith) le ]

-- a set without numbers up to n picks none of them
has_none : (most n : ℕ) (ns : List ℕ) → n ≤ most → list_any (λ m. nat_le m most) ns ≡ false → picks (Some ns) n ≡ false
has_none most n [] le h = refl
has_none most n (m ∷ ms) le h =
    let b = or_parts (nat_le m most) (list_any (λ x. nat_le x most) ms) h in
    let gt = leb-false m most b.0 in
    or_from (nat_eq n m) (list_any (nat_eq n) ms) (ne_eqb n m (λ e. omega arith)) (has_none most n ms le b.1)

picks_none : (most n : ℕ) (set : Option (List ℕ)) → n ≤ most → has_upto most set ≡ false → picks set n ≡ false
picks_none most n None le h = absurd (false≢true (sym h))
picks_none most n (Some ns) le h = has_none most n ns le h

selects_none : (c : Calendar) (ps : List Part) (u : Calendar) (m : ℕ) → goes_down c ps u ≡ true → 2880 ≤ m → can_select c ps ≡ false → selects c ps m ≡ false
selects_none c [] u m h low none = absurd (false≢true (sym none))
selects_none c (p ∷ ps) u m h low none =
    let d = lower c p ps u h in
    let n = number_within c p.calendar m in
    elim (and_cases (has_upto (most_in c p.calendar) p.set) (can_select p.calendar ps) none) [
      | inl a ↦ and_left (picks p.set n) (selects p.calendar ps m) (picks_none (most_in c p.calendar) n p.set (number_most c p.calendar m d.below low) a)
      | inr b ↦ and_right (picks p.set n) (selects p.calendar ps m) (selects_none p.calendar ps u m d.more low b)
    ]

begins_none_by : (ps : List Part) (u : Calendar) (m : ℕ) → from_all ps u ≡ true → 2880 ≤ m → can_begin_by ps ≡ false → begins_by ps m ≡ false
begins_none_by [] u m h low none = refl
begins_none_by (p ∷ ps) u m h low none =
    selects_none p.calendar ps u m (and_parts (not (is_some p.set)) (goes_down p.calendar ps u) h).1 low none

-- where no set has a number that can come, nothing begins
pub begins_none : (e : Expr) (from end : ℕ) → is_expr e ≡ true → 2880 ≤ from → can_begin e ≡ false → HasNoBegin e from end
begins_none e from end h low none u le lt = begins_none_by e.parts e.unit u (valid e h).parts (omega arith) none

-- what a begin covers

-- the unit that begins with a begin
pub unit_begin : (e : Expr) (m : ℕ) → is_expr e ≡ true → begins e m ≡ true → first_minute e.unit (interval_of e.unit m) ≡ m
unit_begin e m h b =
    let i = interval_of (last_calendar e) m in
    let is = begins_at_firsts e m b in
    ap (λ x. first_minute e.unit (interval_of e.unit x)) (sym is) ∙ unit_aligned e i h ∙ is

pub covered : (e : Expr) (k m : ℕ) → is_expr e ≡ true → IsLastBegin e (unit_first e (k + 1 - e.count)) (unit_first e k) m → IsCovered e k (interval_of e.unit m + e.count)
covered e k m h f =
    let at = interval_of e.unit m in
    let most = (valid e h).most in
    let here = unit_begin e m h f.begin in
    let high : at < k + 1 = before_first e.unit at (k + 1) (omega (arith, here, f.within, rising e.unit k (k + 1) (omega arith))) in
    let low : k + 1 - e.count < at + 1 = before_first e.unit (k + 1 - e.count) (at + 1) (omega (arith, here, f.low, goes_on e.unit m)) in
    record {
      later = omega arith;
      near = omega arith;
      within = λ j le lt. finds e e.count j at (omega arith) lt (ap (begins e) here ∙ f.begin);
    }

pub uncovered : (e : Expr) (k : ℕ) → e.count ≤ k → HasNoBegin e (unit_first e (k + 1 - e.count)) (unit_first e k + 1) → begun_within e e.count k ≡ false
uncovered e k most none =
    false_from_ne_true (begun_within e e.count k) (λ w.
    let f = found e e.count k most w in
    let low = f.low in
    let high = f.high in
    false≢true (sym (none (first_minute e.unit f.at) (not_falling e.unit (k + 1 - e.count) f.at (omega arith)) (omega (arith, not_falling e.unit f.at k high))) ∙ f.begin))

-- an interval that lasts beyond instant 0 is late enough

early_first : (c : Calendar) → first_minute c (early c) ≤ 1_051_898_400
early_first Years = omega arith
early_first Months = omega arith
early_first Weeks = omega arith
early_first Days = omega arith
early_first Hours = omega arith
early_first Minutes = omega arith

pub early_enough : (c : Calendar) → 2880 ≤ first_minute c (early c - 1000)
early_enough Years = omega arith
early_enough Months = omega arith
early_enough Weeks = omega arith
early_enough Days = omega arith
early_enough Hours = omega arith
early_enough Minutes = omega arith

late_unit : (c : Calendar) (k : ℕ) → 1_051_898_400 < first_minute c (k + 1) → early c ≤ k
late_unit c k h =
    let lt : early c < k + 1 = before_first c (early c) (k + 1) (omega (arith, early_first c)) in
    omega arith

pub count_low : (e : Expr) (k : ℕ) → is_expr e ≡ true → 1_051_898_400 < unit_first e (k + 1) → e.count ≤ k
count_low e k h late =
    let most = (valid e h).most in
    omega (arith, late_unit e.unit k late, thousand e.unit)

pub count_late : (e : Expr) (k : ℕ) → is_expr e ≡ true → 1_051_898_400 < unit_first e (k + 1) → 2880 ≤ unit_first e (k + 1 - e.count)
count_late e k h late =
    let most = (valid e h).most in
    let low = late_unit e.unit k late in
    let base = thousand e.unit in
    omega (arith, early_enough e.unit, not_falling e.unit (early e.unit - 1000) (k + 1 - e.count) (omega arith))

pub unit_low : (e : Expr) (k : ℕ) → k ≤ unit_first e k
unit_low e k = number_low e.unit k
