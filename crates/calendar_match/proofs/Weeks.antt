-- Where an expression repeats each week, a week inside is followed by others.
use Rattle.std.proofs.Common.{◌≡◌, ℕ, zero, suc, ◌+◌, ◌-◌, ◌*◌, ◌/◌, ◌<◌, ◌≤◌, Bool, true, not, ◌&&◌, ◌||◌, nat_eq, List, [], ◌∷◌, is_some, min, refl, arith, ap, sym, ◌∙◌, inl, inr}
use Rattle.std.proofs.lemmas.Bool.{false≢true, cases_lt, and_parts, or_cases}
use Rattle.std.proofs.lemmas.Bool.Decides.{nat_tests}
use Rattle.gtrbac_model.specs.declared.calendars.Calendar.{Calendar}
use Rattle.gtrbac_model.specs.declared.calendars.Calendar.TheVariants.{Years, Months, Weeks, Days, Hours, Minutes}
use Rattle.gtrbac_model.specs.Calendar.{minute_of, first_minute, interval_of, number_within}
use Rattle.gtrbac_model.specs.Period.{Part, Expr, Period, picks, selects, begins_by, begins, begun_within, inside}
use Rattle.gtrbac_model.specs.Valid.{is_same, is_below, goes_down, from_all, is_expr}
use Rattle.gtrbac_model.proofs.Covers.{goes_on, not_falling}
use Rattle.calendar_laws.proofs.Begins.{valid}
use Rattle.calendar_laws.proofs.Insides.{early, late, thousand}
use Rattle.gtrbac_model.proofs.Downward.{lower, same_unit}
use Rattle.calendar_match.specs.Next.{StaysIn, IsHorizon}
use Rattle.calendar_match.specs.Reach.{unit_first}
use Rattle.calendar_match.specs.Steps.{most_in, picks_upto, fills, is_fixed, repeats_from, repeats_by, repeats}
use Rattle.calendar_match.proofs.Latest.{early_enough, count_low, count_late}
use Rattle.calendar_match.proofs.Filled.{part_picks, filled}
use Rattle.calendar_match.proofs.Moves.{lasts, within, is_in}

-- how many intervals of a calendar a week has
abbrev in_week : Calendar → ℕ
in_week Weeks = 1
in_week Days = 7
in_week Hours = 168
in_week _ = 10_080

week_on : (c : Calendar) (m : ℕ) → is_fixed c ≡ true → 2880 ≤ m → interval_of c (m + 10_080) ≡ interval_of c m + in_week c
week_on Years m h low = absurd (false≢true h)
week_on Months m h low = absurd (false≢true h)
week_on Weeks m h low = omega arith
week_on Days m h low = omega arith
week_on Hours m h low = omega arith
week_on Minutes m h low = omega arith

first_on : (c : Calendar) (k : ℕ) → is_fixed c ≡ true → first_minute c (k + in_week c) ≡ first_minute c k + 10_080
first_on Years k h = absurd (false≢true h)
first_on Months k h = absurd (false≢true h)
first_on Weeks k h = omega arith
first_on Days k h = omega arith
first_on Hours k h = omega arith
first_on Minutes k h = omega arith

first_low : (c : Calendar) (m : ℕ) → is_fixed c ≡ true → 2880 ≤ m → 2880 ≤ first_minute c (interval_of c m)
first_low Years m h low = absurd (false≢true h)
first_low Months m h low = absurd (false≢true h)
first_low Weeks m h low = omega arith
first_low Days m h low = omega arith
first_low Hours m h low = omega arith
first_low Minutes m h low = omega arith

fixed_below : (c d : Calendar) → is_fixed c ≡ true → is_below c d ≡ true → is_fixed d ≡ true
fixed_below Years d h b = absurd (false≢true h)
fixed_below Months d h b = absurd (false≢true h)
fixed_below Weeks Days h b = refl
fixed_below Weeks Hours h b = refl
fixed_below Weeks Minutes h b = refl
fixed_below Days Hours h b = refl
fixed_below Days Minutes h b = refl
fixed_below Hours Minutes h b = refl
fixed_below _ _ h b = absurd (false≢true b)

number_again : (c d : Calendar) (m : ℕ) → is_fixed c ≡ true → is_fixed d ≡ true → 2880 ≤ m → number_within c d (m + 10_080) ≡ number_within c d m
number_again c d m hc hd low =
    rw (week_on c m hc low, first_on c (interval_of c m) hc, week_on d m hd low, week_on d (first_minute c (interval_of c m)) hd (first_low c m hc low)) (omega arith)

shifted : (a b w : ℕ) → nat_eq (a + w) (b + w) ≡ nat_eq a b
shifted a b w = grind (arith, nat_tests)

-- a week later the same is selected

fixed_again : (c : Calendar) (ps : List Part) (u : Calendar) (m : ℕ) → goes_down c ps u ≡ true → is_fixed c ≡ true → 2880 ≤ m → selects c ps (m + 10_080) ≡ selects c ps m
fixed_again c [] u m h f low =
    rw (week_on c m f low, first_on c (interval_of c m) f) (shifted (first_minute c (interval_of c m)) m 10_080)
fixed_again c (p ∷ ps) u m h f low =
    let d = lower c p ps u h in
    let fixed = fixed_below c p.calendar f d.below in
    rw (number_again c p.calendar m f fixed low, fixed_again p.calendar ps u m d.more fixed low) refl

through : (b b' x y : Bool) → b ≡ true → b' ≡ true → x ≡ y → (b && x) ≡ (b' && y)
through b b' x y e e' same = rw (e, e') same

selects_again : (c : Calendar) (ps : List Part) (u : Calendar) (m : ℕ) → goes_down c ps u ≡ true → repeats_from c ps ≡ true → 2880 ≤ m → selects c ps (m + 10_080) ≡ selects c ps m
selects_again c [] u m h r low = fixed_again c [] u m h r low
selects_again c (p ∷ ps) u m h r low =
    elim (or_cases (is_fixed c) (picks_upto (most_in c p.calendar) p.set && repeats_from p.calendar ps) r) [
      | inl f ↦ fixed_again c (p ∷ ps) u m h f low
      | inr both ↦
          (let b = and_parts (picks_upto (most_in c p.calendar) p.set) (repeats_from p.calendar ps) both in
          through (picks p.set (number_within c p.calendar (m + 10_080))) (picks p.set (number_within c p.calendar m)) (selects p.calendar ps (m + 10_080)) (selects p.calendar ps m) (part_picks c p ps u (m + 10_080) h b.0 (omega arith)) (part_picks c p ps u m h b.0 low) (selects_again p.calendar ps u m (lower c p ps u h).more b.1 low))
    ]

begins_again_by : (ps : List Part) (u : Calendar) (m : ℕ) → from_all ps u ≡ true → repeats_by ps ≡ true → 2880 ≤ m → begins_by ps (m + 10_080) ≡ begins_by ps m
begins_again_by [] u m h r low = refl
begins_again_by (p ∷ ps) u m h r low =
    selects_again p.calendar ps u m (and_parts (not (is_some p.set)) (goes_down p.calendar ps u) h).1 r low

begins_again : (e : Expr) (m : ℕ) → is_expr e ≡ true → repeats e ≡ true → 2880 ≤ m → begins e (m + 10_080) ≡ begins e m
begins_again e m h r low = begins_again_by e.parts e.unit m (valid e h).parts r low

-- the unit of the length is fixed

unit_fixed_same : (c u : Calendar) → is_fixed c ≡ true → (is_same c u || is_below c u) ≡ true → is_fixed u ≡ true
unit_fixed_same c u f h =
    elim (or_cases (is_same c u) (is_below c u) h) [ inl s ↦ rw (← same_unit c u s) f | inr b ↦ fixed_below c u f b ]

unit_fixed_down : (c : Calendar) (ps : List Part) (u : Calendar) → goes_down c ps u ≡ true → is_fixed c ≡ true → is_fixed u ≡ true
unit_fixed_down c [] u h f = unit_fixed_same c u f h
unit_fixed_down c (p ∷ ps) u h f =
    let d = lower c p ps u h in
    unit_fixed_down p.calendar ps u d.more (fixed_below c p.calendar f d.below)

unit_fixed_from : (c : Calendar) (ps : List Part) (u : Calendar) → goes_down c ps u ≡ true → repeats_from c ps ≡ true → is_fixed u ≡ true
unit_fixed_from c [] u h r = unit_fixed_down c [] u h r
unit_fixed_from c (p ∷ ps) u h r =
    elim (or_cases (is_fixed c) (picks_upto (most_in c p.calendar) p.set && repeats_from p.calendar ps) r) [
      | inl f ↦ unit_fixed_down c (p ∷ ps) u h f
      | inr both ↦ unit_fixed_from p.calendar ps u (lower c p ps u h).more (and_parts (picks_upto (most_in c p.calendar) p.set) (repeats_from p.calendar ps) both).1
    ]

unit_fixed_by : (ps : List Part) (u : Calendar) → from_all ps u ≡ true → repeats_by ps ≡ true → is_fixed u ≡ true
unit_fixed_by [] u h r = absurd (false≢true h)
unit_fixed_by (p ∷ ps) u h r = unit_fixed_from p.calendar ps u (and_parts (not (is_some p.set)) (goes_down p.calendar ps u) h).1 r

unit_fixed : (e : Expr) → is_expr e ≡ true → repeats e ≡ true → is_fixed e.unit ≡ true
unit_fixed e h r = unit_fixed_by e.parts e.unit (valid e h).parts r

-- so a week later it is inside where it was

begun_again : (e : Expr) (n k : ℕ) → is_expr e ≡ true → repeats e ≡ true → n ≤ k → 2880 ≤ first_minute e.unit (k + 1 - n) → begun_within e n (k + in_week e.unit) ≡ begun_within e n k
begun_again e zero k h r le low = refl
begun_again e (suc n) k h r le low =
    let f = unit_fixed e h r in
    let here : 2880 ≤ first_minute e.unit k = omega (arith, not_falling e.unit (k + 1 - suc n) k (omega arith)) in
    let less : k + in_week e.unit - 1 ≡ k - 1 + in_week e.unit = omega arith in
    let same : k - 1 + 1 - n ≡ k + 1 - suc n = omega arith in
    let now : begins e (first_minute e.unit (k + in_week e.unit)) ≡ begins e (first_minute e.unit k) = ap (begins e) (first_on e.unit k f) ∙ begins_again e (first_minute e.unit k) h r here in
    rw (now, less, begun_again e n (k - 1) h r (omega arith) (rw same low)) refl

lasts_again : (p : Period) (t : ℕ) → is_expr p.expr ≡ true → repeats p.expr ≡ true → lasts p (t + 10_080) ≡ lasts p t
lasts_again p t h r =
    let e = p.expr in
    let k = interval_of e.unit (minute_of t) in
    let at : minute_of (t + 10_080) ≡ minute_of t + 10_080 = omega arith in
    let on : interval_of e.unit (minute_of (t + 10_080)) ≡ k + in_week e.unit = ap (interval_of e.unit) at ∙ week_on e.unit (minute_of t) (unit_fixed e h r) (omega arith) in
    let end : 1_051_898_400 < unit_first e (k + 1) = omega (arith, goes_on e.unit (minute_of t)) in
    ap (begun_within e e.count) on ∙ begun_again e e.count k h r (count_low e k h end) (count_late e k h end)

in_weeks : (p : Period) (after k : ℕ) → is_expr p.expr ≡ true → repeats p.expr ≡ true → minute_of after + 10_080 < unit_first p.expr k → StaysIn p after k → (q u : ℕ) → after ≤ u → u ≤ p.last → u < after + 10_080 * (q + 1) → lasts p u ≡ true
in_weeks p after k h r far stays zero u low high lt = (within p u (stays u low high (omega arith))).last
in_weeks p after k h r far stays (suc q) u low high lt =
    elim (cases_lt u (after + 10_080)) [
      | inl early ↦ (within p u (stays u low high (omega arith))).last
      | inr ge ↦
          (let back : u - 10_080 + 10_080 ≡ u = omega arith in
          ap (lasts p) (sym back) ∙ lasts_again p (u - 10_080) h r ∙ in_weeks p after k h r far stays q (u - 10_080) (omega arith) (omega arith) (omega arith))
    ]

-- the interval at an instant begins after the first Monday
last_late : (c : Calendar) (t : ℕ) → 2880 ≤ first_minute c (interval_of c (minute_of t))
last_late c t = omega (arith, early_enough c, not_falling c (early c - 1000) (interval_of c (minute_of t)) (omega (arith, late c t, thousand c)))

-- beyond which minute it stays inside

pub past_end : (p : Period) (after stop : ℕ) → stop ≡ minute_of p.last → IsHorizon p after stop
past_end p after stop e k far stays u low high = stays u low high (omega arith)

pub past_week : (p : Period) (after stop : ℕ) → is_expr p.expr ≡ true → repeats p.expr ≡ true → inside p after ≡ true → stop ≡ min (minute_of p.last) (minute_of after + 10_080) → IsHorizon p after stop
past_week p after stop h r i e k far stays u low high =
    let first = (within p after i).low in
    elim (cases_lt (minute_of u) (unit_first p.expr k)) [
      | inl early ↦ stays u low high early
      | inr ge ↦ is_in p u (omega arith) high (in_weeks p after k h r (omega arith) stays (u / 10_080) u low high (omega arith))
    ]

pub past_filled : (p : Period) (after stop : ℕ) → is_expr p.expr ≡ true → fills p.expr ≡ true → inside p after ≡ true → IsHorizon p after stop
past_filled p after stop h f i k far stays u low high =
    let e = p.expr in
    let first = (within p after i).low in
    is_in p u (omega arith) high (filled e (minute_of u) h f (omega arith) (λ c. last_late c u))
