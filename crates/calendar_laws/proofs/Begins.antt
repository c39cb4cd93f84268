-- `begins` is Begin.
use Rattle.std.proofs.Common.{◌≡◌, ℕ, ◌+◌, ◌<◌, ◌≤◌, true, not, ◌&&◌, ◌||◌, List, [], ◌∷◌, arith, ap, sym, ◌∙◌, nat_le, is_some}
use Rattle.std.proofs.lemmas.Bool.{false≢true, and_parts, and_from, eqb-true, eq-eqb, leb-true}
use Rattle.gtrbac_model.specs.declared.calendars.Calendar.{Calendar}
use Rattle.gtrbac_model.specs.Calendar.{first_minute, interval_of, number_within}
use Rattle.gtrbac_model.specs.Period.{Part, Expr, picks, begins, IsNumber, LeadsTo, BeginBy, Begin, selects, begins_by}
use Rattle.gtrbac_model.specs.Valid.{is_set, is_same, is_below, goes_down, from_all, is_expr}
use Rattle.gtrbac_model.specs.Selects.{last_of, last_by, last_calendar}
use Rattle.gtrbac_model.proofs.Covers.{only, at_first, before_first, not_falling, rising}
use Rattle.gtrbac_model.proofs.Downward.{Lower, lower, goes_to_unit}
use Rattle.calendar_laws.proofs.Nested.{nested, is_number, aligned_unit}

leads : (c : Calendar) (ps : List Part) (unit : Calendar) (m : ℕ) → goes_down c ps unit ≡ true → 2880 ≤ m → selects c ps m ≡ true → LeadsTo c (interval_of c m) ps m
leads c [] unit m h late s = eqb-true (first_minute c (interval_of c m)) m s
leads c (p ∷ ps) unit m h late s =
    let low = lower c p ps unit h in
    let both = and_parts (picks p.set (number_within c p.calendar m)) (selects p.calendar ps m) s in
    (number_within c p.calendar m, interval_of p.calendar m, both.0, is_number c p.calendar m low.below late, leads p.calendar ps unit m low.more late both.1)

-- the minute is in the interval, and its numbers are picked
record Led (c : Calendar) (i : ℕ) (ps : List Part) (m : ℕ) : Type 0 where
  low : first_minute c i ≤ m
  high : m < first_minute c (i + 1)
  selected : selects c ps m ≡ true

number_is : (o : Calendar) (i : ℕ) (c : Calendar) (n j m : ℕ) → is_below o c ≡ true → IsNumber o i c n j → interval_of o m ≡ i → interval_of c m ≡ j → number_within o c m ≡ n
number_is o i c n j m h num eo ec =
    let from : interval_of c (first_minute o i) ≡ num.first = ap (interval_of c) (sym num.aligned) ∙ at_first c num.first in
    let counted = num.counted in
    let positive = num.positive in
    rw (eo, ec, from) (omega arith)

led : (c : Calendar) (i : ℕ) (ps : List Part) (unit : Calendar) (m : ℕ) → goes_down c ps unit ≡ true → LeadsTo c i ps m → Led c i ps m
led c i [] unit m h e =
    let here : interval_of c m ≡ i = ap (interval_of c) (sym e) ∙ at_first c i in
    record {
      low = omega (arith, e);
      high = omega (arith, e, rising c i (i + 1) (omega arith));
      selected = eq-eqb (first_minute c (interval_of c m)) m (ap (first_minute c) here ∙ e);
    }
led c i (p ∷ ps) unit m h (n, j, picked, num, more) =
    let down = lower c p ps unit h in
    let inner = led p.calendar j ps unit m down.more more in
    let next = nested c p.calendar (i + 1) down.below in
    let after : j < next.0 = before_first p.calendar j next.0 (omega (arith, num.below, next.1)) in
    let counted = num.counted in
    let positive = num.positive in
    let low : first_minute c i ≤ m = omega (arith, num.aligned, not_falling p.calendar num.first j (omega arith), inner.low) in
    let high : m < first_minute c (i + 1) = omega (arith, next.1, not_falling p.calendar (j + 1) next.0 (omega arith), inner.high) in
    let number = number_is c i p.calendar n j m down.below num (only c m i low high) (only p.calendar m j inner.low inner.high) in
    record {
      low = low;
      high = high;
      selected = and_from (picks p.set (number_within c p.calendar m)) (selects p.calendar ps m) (ap (picks p.set) number ∙ picked) inner.selected;
    }

begins_mean_by : (ps : List Part) (unit : Calendar) (m : ℕ) → from_all ps unit ≡ true → 2880 ≤ m → begins_by ps m ≡ true → BeginBy ps m
begins_mean_by [] unit m h late b = absurd (false≢true b)
begins_mean_by (p ∷ ps) unit m h late b =
    let both = and_parts (not (is_some p.set)) (goes_down p.calendar ps unit) h in
    (interval_of p.calendar m, leads p.calendar ps unit m both.1 late b)

begin_counts_by : (ps : List Part) (unit : Calendar) (m : ℕ) → from_all ps unit ≡ true → BeginBy ps m → begins_by ps m ≡ true
begin_counts_by [] unit m h b = absurd b
begin_counts_by (p ∷ ps) unit m h (i, b) =
    let both = and_parts (not (is_some p.set)) (goes_down p.calendar ps unit) h in
    (led p.calendar i ps unit m both.1 b).selected

pub record Valid (e : Expr) : Type 0 where
  pub parts : from_all e.parts e.unit ≡ true
  pub least : 1 ≤ e.count
  pub most : e.count ≤ 1000

pub valid : (e : Expr) → is_expr e ≡ true → Valid e
valid e h =
    let a = and_parts (from_all e.parts e.unit && nat_le 1 e.count) (nat_le e.count 1000) h in
    let b = and_parts (from_all e.parts e.unit) (nat_le 1 e.count) a.0 in
    record { parts = b.0; least = leb-true 1 e.count b.1; most = leb-true e.count 1000 a.1 }

pub begins_means : (e : Expr) (m : ℕ) → is_expr e ≡ true → 2880 ≤ m → begins e m ≡ true → Begin e m
begins_means e m h late b = begins_mean_by e.parts e.unit m (valid e h).parts late b

pub begin_counts : (e : Expr) (m : ℕ) → is_expr e ≡ true → Begin e m → begins e m ≡ true
begin_counts e m h b = begin_counts_by e.parts e.unit m (valid e h).parts b

at_last : (c : Calendar) (ps : List Part) (m : ℕ) → selects c ps m ≡ true → first_minute (last_of c ps) (interval_of (last_of c ps) m) ≡ m
at_last c [] m s = eqb-true (first_minute c (interval_of c m)) m s
at_last c (p ∷ ps) m s = at_last p.calendar ps m (and_parts (picks p.set (number_within c p.calendar m)) (selects p.calendar ps m) s).1

at_last_by : (ps : List Part) (m : ℕ) → begins_by ps m ≡ true → first_minute (last_by ps) (interval_of (last_by ps) m) ≡ m
at_last_by [] m b = absurd (false≢true b)
at_last_by (p ∷ ps) m b = at_last p.calendar ps m b

pub begins_at_firsts : (e : Expr) (m : ℕ) → begins e m ≡ true → first_minute (last_calendar e) (interval_of (last_calendar e) m) ≡ m
begins_at_firsts e m b = at_last_by e.parts m b

-- the unit of the length is the last calendar or stands below it
unit_of : (ps : List Part) (u : Calendar) → from_all ps u ≡ true → (is_same (last_by ps) u || is_below (last_by ps) u) ≡ true
unit_of [] u h = absurd (false≢true h)
unit_of (p ∷ ps) u h = goes_to_unit p.calendar ps u (and_parts (not (is_some p.set)) (goes_down p.calendar ps u) h).1

-- so each interval of the last calendar begins with one of the unit
pub unit_aligned : (e : Expr) (i : ℕ) → is_expr e ≡ true → first_minute e.unit (interval_of e.unit (first_minute (last_calendar e) i)) ≡ first_minute (last_calendar e) i
unit_aligned e i h = aligned_unit (last_calendar e) e.unit i (unit_of e.parts e.unit (valid e h).parts)
