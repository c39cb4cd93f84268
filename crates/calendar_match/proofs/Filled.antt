-- An expression that takes all, with a length that fills the intervals, is inside always.
use Rattle.std.proofs.Common.{◌≡◌, ℕ, ◌+◌, ◌-◌, ◌≤◌, ◌<◌, true, not, ◌&&◌, ◌||◌, nat_eq, nat_le, List, [], ◌∷◌, length, is_some, arith, ap, sym, ◌∙◌, inl, inr}
use Rattle.std.proofs.lemmas.Bool.{false≢true, and_parts, and_from, or_cases, eq-eqb, eqb-true, leb-true}
use Rattle.gtrbac_model.specs.declared.calendars.Calendar.{Calendar}
use Rattle.gtrbac_model.specs.Calendar.{first_minute, interval_of, number_within}
use Rattle.gtrbac_model.specs.Period.{Part, Expr, picks, selects, begins_by, begins, begun_within}
use Rattle.gtrbac_model.specs.Valid.{is_same, is_below, goes_down, from_all, is_expr}
use Rattle.gtrbac_model.specs.Selects.{last_of, last_by, last_calendar}
use Rattle.gtrbac_model.proofs.Covers.{begun, goes_on, only, not_falling, at_first}
use Rattle.calendar_laws.proofs.Nested.{is_number}
use Rattle.calendar_laws.proofs.Begins.{valid, unit_aligned}
use Rattle.calendar_laws.proofs.Insides.{finds}
use Rattle.gtrbac_model.proofs.Downward.{goes_to_unit, lower, same_unit}
use Rattle.calendar_match.specs.Steps.{most_in, picks_upto, take_all, fills_by, is_dense, dense_last, dense_by, fills}
use Rattle.calendar_match.proofs.Bounds.{interval_not_falling}
use Rattle.calendar_match.proofs.Numbers.{picks_run, Reached, reached}
use Rattle.calendar_match.proofs.Passing.{number_later}
use Rattle.calendar_match.proofs.Spans.{number_most, number_most_unit}

-- such a part picks the number at each minute
pub part_picks : (c : Calendar) (p : Part) (ps : List Part) (u : Calendar) (m : ℕ) → goes_down c (p ∷ ps) u ≡ true → picks_upto (most_in c p.calendar) p.set ≡ true → 2880 ≤ m → picks p.set (number_within c p.calendar m) ≡ true
part_picks c p ps u m h run low =
    let d = lower c p ps u h in
    picks_run p.set (most_in c p.calendar) (number_within c p.calendar m) d.set run (omega arith) (number_most c p.calendar m d.below low)

all_selected : (c : Calendar) (ps : List Part) (u : Calendar) (m : ℕ) → goes_down c ps u ≡ true → take_all c ps ≡ true → 2880 ≤ m → first_minute (last_of c ps) (interval_of (last_of c ps) m) ≡ m → selects c ps m ≡ true
all_selected c [] u m h a low e = eq-eqb (first_minute c (interval_of c m)) m e
all_selected c (p ∷ ps) u m h a low e =
    let both = and_parts (picks_upto (most_in c p.calendar) p.set) (take_all p.calendar ps) a in
    and_from (picks p.set (number_within c p.calendar m)) (selects p.calendar ps m) (part_picks c p ps u m h both.0 low) (all_selected p.calendar ps u m (lower c p ps u h).more both.1 low e)

all_begin : (ps : List Part) (u : Calendar) (m : ℕ) → from_all ps u ≡ true → fills_by ps ≡ true → 2880 ≤ m → first_minute (last_by ps) (interval_of (last_by ps) m) ≡ m → begins_by ps m ≡ true
all_begin [] u m h a low e = absurd (false≢true h)
all_begin (p ∷ ps) u m h a low e = all_selected p.calendar ps u m (and_parts (not (is_some p.set)) (goes_down p.calendar ps u) h).1 a low e

unit_below : (ps : List Part) (u : Calendar) → from_all ps u ≡ true → (is_same (last_by ps) u || is_below (last_by ps) u) ≡ true
unit_below [] u h = absurd (false≢true h)
unit_below (p ∷ ps) u h = goes_to_unit p.calendar ps u (and_parts (not (is_some p.set)) (goes_down p.calendar ps u) h).1

-- a begin close below the interval of the last calendar at the minute

record Held (c : Calendar) (ps : List Part) (reach m at : ℕ) : Type 0 where
  before : at ≤ interval_of (last_of c ps) m
  near : interval_of (last_of c ps) m < at + reach
  late : 2880 ≤ first_minute (last_of c ps) at
  selected : selects c ps (first_minute (last_of c ps) at) ≡ true

abbrev Late : ℕ → Type 0
Late m = (c : Calendar) → 2880 ≤ first_minute c (interval_of c m)

first_selected : (c : Calendar) (at : ℕ) → selects c [] (first_minute c at) ≡ true
first_selected c at = eq-eqb (first_minute c (interval_of c (first_minute c at))) (first_minute c at) (ap (first_minute c) (at_first c at))

-- within an interval of a calendar, at a number that a dense set picks
held_number : (c : Calendar) (p : Part) (reach m k : ℕ) → is_below c p.calendar ≡ true → 2880 ≤ m → Late m → Reached p.set reach (number_within c p.calendar m) k
    → (at : ℕ) × Held c (p ∷ []) reach m at
held_number c p reach m k below low late r =
    let d = p.calendar in
    let n = number_within c d m in
    let i = interval_of c m in
    let is = is_number c d m below low in
    let at : ℕ = interval_of d m + k - n in
    let s : ℕ = first_minute d at in
    let counted : interval_of d m + 1 ≡ is.first + n = is.counted in
    let some : 1 ≤ k = r.low in
    let high : k ≤ n = r.high in
    let near : n < k + reach = r.near in
    let from : first_minute d is.first ≡ first_minute c i = is.aligned in
    let start : first_minute c i ≤ s = omega (arith, not_falling d is.first at (omega arith)) in
    let begun_by : s ≤ m = omega (arith, begun d m low, not_falling d at (interval_of d m) (omega arith)) in
    let early : 2880 ≤ first_minute c i = late c in
    let same : interval_of c s ≡ i = only c s i start (omega (arith, goes_on c m)) in
    let here : interval_of d s ≡ at = at_first d at in
    let number : n ≡ number_within c d s + (interval_of d m - interval_of d s) = number_later c d s m (rw same start) (sym same) begun_by in
    let is_k : number_within c d s ≡ k = omega arith in (
      at,
      record {
        before = omega arith;
        near = omega arith;
        late = omega arith;
        selected = and_from (picks p.set (number_within c d s)) (selects d [] s) (ap (picks p.set) is_k ∙ r.picked) (first_selected d at);
      },
    )

dense_held : (c : Calendar) (ps : List Part) (u : Calendar) (reach m : ℕ) → goes_down c ps u ≡ true → dense_last reach c ps ≡ true → 1 ≤ reach → 2880 ≤ m → Late m → (at : ℕ) × Held c ps reach m at
dense_held c [] u reach m h d pos low late =
    (interval_of c m, record { before = omega arith; near = omega arith; late = late c; selected = first_selected c (interval_of c m) })
dense_held c (p ∷ ps) u reach m h d pos low late =
    let down = lower c p ps u h in
    elim (or_cases (picks_upto (most_in c p.calendar) p.set && dense_last reach p.calendar ps) (nat_eq (length ps) 0 && is_dense reach (most_in c p.calendar) p.set) d) [
      | inl all ↦ (let both = and_parts (picks_upto (most_in c p.calendar) p.set) (dense_last reach p.calendar ps) all in
          let r = dense_held p.calendar ps u reach m down.more both.1 pos low late in
          let held = r.1 in
          let s = first_minute (last_of p.calendar ps) r.0 in (
            r.0,
            record {
              before = held.before;
              near = held.near;
              late = held.late;
              selected = and_from (picks p.set (number_within c p.calendar s)) (selects p.calendar ps s) (part_picks c p ps u s h both.0 held.late) held.selected;
            },
          ))
      | inr one ↦ last_held c p ps u reach m h one pos low late
    ]
  where
    last_held : (c : Calendar) (p : Part) (ps : List Part) (u : Calendar) (reach m : ℕ) → goes_down c (p ∷ ps) u ≡ true → (nat_eq (length ps) 0 && is_dense reach (most_in c p.calendar) p.set) ≡ true → 1 ≤ reach → 2880 ≤ m → Late m
        → (at : ℕ) × Held c (p ∷ ps) reach m at
    last_held c p [] u reach m h one pos low late =
        let down = lower c p [] u h in
        let dense = (and_parts (nat_eq (length {A = Part} []) 0) (is_dense reach (most_in c p.calendar) p.set) one).1 in
        let r = reached p.set reach (most_in c p.calendar) (number_within c p.calendar m) down.set dense pos (omega arith) (number_most c p.calendar m down.below low) in
        held_number c p reach m r.0 down.below low late r.1
    last_held c p (q ∷ qs) u reach m h one pos low late =
        let empty = eqb-true (length (q ∷ qs)) 0 (and_parts (nat_eq (length (q ∷ qs)) 0) (is_dense reach (most_in c p.calendar) p.set) one).0 in
        absurd (omega (arith, empty))

record HeldBy (ps : List Part) (reach m at : ℕ) : Type 0 where
  before : at ≤ interval_of (last_by ps) m
  near : interval_of (last_by ps) m < at + reach
  begin : begins_by ps (first_minute (last_by ps) at) ≡ true

dense_begin : (ps : List Part) (u : Calendar) (reach m : ℕ) → from_all ps u ≡ true → dense_by reach ps ≡ true → 1 ≤ reach → 2880 ≤ m → Late m → (at : ℕ) × HeldBy ps reach m at
dense_begin [] u reach m h d pos low late = absurd (false≢true h)
dense_begin (p ∷ ps) u reach m h d pos low late =
    let r = dense_held p.calendar ps u reach m (and_parts (not (is_some p.set)) (goes_down p.calendar ps u) h).1 d pos low late in
    let held = r.1 in
    (r.0, record { before = held.before; near = held.near; begin = held.selected })

filled_densely : (e : Expr) (m : ℕ) → is_expr e ≡ true → (is_same (last_calendar e) e.unit && dense_by e.count e.parts) ≡ true → 2880 ≤ m → Late m → begun_within e e.count (interval_of e.unit m) ≡ true
filled_densely e m h f low late =
    let v = valid e h in
    let both = and_parts (is_same (last_calendar e) e.unit) (dense_by e.count e.parts) f in
    let same : last_calendar e ≡ e.unit = same_unit (last_calendar e) e.unit both.0 in
    let r = dense_begin e.parts e.unit e.count m v.parts both.1 (omega arith) low late in
    let held = r.1 in
    let interval : interval_of (last_calendar e) m ≡ interval_of e.unit m = ap (λ c. interval_of c m) same in
    let first : first_minute (last_calendar e) r.0 ≡ first_minute e.unit r.0 = ap (λ c. first_minute c r.0) same in
    let before : r.0 ≤ interval_of (last_calendar e) m = held.before in
    let near : interval_of (last_calendar e) m < r.0 + e.count = held.near in
    finds e e.count (interval_of e.unit m) r.0 (omega arith) (omega arith) (ap (begins e) (sym first) ∙ held.begin)

-- the interval of the last calendar at the minute begins late enough
filled_wholly : (e : Expr) (m : ℕ) → is_expr e ≡ true → (fills_by e.parts && nat_le (most_in (last_calendar e) e.unit) e.count) ≡ true → 2880 ≤ m → 2880 ≤ first_minute (last_calendar e) (interval_of (last_calendar e) m) → begun_within e e.count (interval_of e.unit m) ≡ true
filled_wholly e m h f low first_low =
    let c = last_calendar e in
    let k = interval_of e.unit m in
    let v = valid e h in
    let both = and_parts (fills_by e.parts) (nat_le (most_in c e.unit) e.count) f in
    let most = leb-true (most_in c e.unit) e.count both.1 in
    let s = first_minute c (interval_of c m) in
    let start : s ≤ m = begun c m low in
    let at = interval_of e.unit s in
    let here : first_minute e.unit at ≡ s = unit_aligned e (interval_of c m) h in
    let begin : begins e s ≡ true = all_begin e.parts e.unit s v.parts both.0 first_low (ap (first_minute c) (at_first c (interval_of c m))) in
    let before : at ≤ k = interval_not_falling e.unit s m start in
    let number : k - at + 1 ≤ most_in c e.unit = number_most_unit c e.unit m (unit_below e.parts e.unit v.parts) low in
    finds e e.count k at before (omega arith) (ap (begins e) here ∙ begin)

-- the intervals at the minute begin late enough
pub filled : (e : Expr) (m : ℕ) → is_expr e ≡ true → fills e ≡ true → 2880 ≤ m → ((c : Calendar) → 2880 ≤ first_minute c (interval_of c m)) → begun_within e e.count (interval_of e.unit m) ≡ true
filled e m h f low late =
    elim (or_cases (fills_by e.parts && nat_le (most_in (last_calendar e) e.unit) e.count) (is_same (last_calendar e) e.unit && dense_by e.count e.parts) f) [
      | inl whole ↦ filled_wholly e m h whole low (late (last_calendar e))
      | inr dense ↦ filled_densely e m h dense low late
    ]
