-- How starts and insides follow one another.
use Rattle.std.proofs.Common.{◌≡◌, ℕ, zero, suc, ◌+◌, ◌-◌, ◌<◌, ◌≤◌, Bool, true, false, not, ◌&&◌, nat_le, arith, ap, sym, ◌∙◌, inl, inr, max, Option, Some, None, IfSome, IfNone}
use Rattle.std.proofs.lemmas.Bool.{false≢true, and_parts, and_from, and_right, leb-true, le-leb, cases_lt, false_from_ne_true}
use Rattle.gt_base.specs.declared.limits.TheConstants.{LAST_MINUTE}
use Rattle.gtrbac_model.specs.Calendar.{minute_of, first_minute, interval_of}
use Rattle.gtrbac_model.specs.Period.{Expr, Period, begins, begun_within, in_bounds, starts, inside}
use Rattle.gtrbac_model.specs.Valid.{is_expr}
use Rattle.gtrbac_model.proofs.Covers.{begun, goes_on, only, at_first, not_falling, before_first}
use Rattle.calendar_laws.proofs.Begins.{valid}
use Rattle.calendar_laws.proofs.Insides.{found, finds}
use Rattle.calendar_match.specs.Reach.{unit_first, IsFirstBegin, HasNoBegin, IsCovered}
use Rattle.calendar_match.specs.Next.{IsLeast, IsNever, outside, StaysIn, StaysAll}
use Rattle.calendar_match.proofs.Bounds.{interval_not_falling}
use Rattle.calendar_match.proofs.Latest.{count_low, unit_begin}

-- within the bounds, and a begin

record Started (p : Period) (t : ℕ) : Type 0 where
  low : p.first ≤ t
  high : t ≤ p.last
  begin : begins p.expr (minute_of t) ≡ true

started : (p : Period) (t : ℕ) → starts p t ≡ true → Started p t
started p t h =
    let a = and_parts (nat_le p.first t && nat_le t p.last) (begins p.expr (minute_of t)) h in
    let b = and_parts (nat_le p.first t) (nat_le t p.last) a.0 in
    record { low = leb-true p.first t b.0; high = leb-true t p.last b.1; begin = a.1 }

bounded : (p : Period) (t : ℕ) → p.first ≤ t → t ≤ p.last → in_bounds p t ≡ true
bounded p t low high = and_from (nat_le p.first t) (nat_le t p.last) (le-leb p.first t low) (le-leb t p.last high)

begin_starts : (p : Period) (t : ℕ) → p.first ≤ t → t ≤ p.last → begins p.expr (minute_of t) ≡ true → starts p t ≡ true
begin_starts p t low high b = and_from (in_bounds p t) (begins p.expr (minute_of t)) (bounded p t low high) b

pub start_found : (p : Period) (from start m t : ℕ) → start ≡ max from p.first → IsFirstBegin p.expr (minute_of start) (minute_of p.last) m → minute_of t ≡ m → IsLeast (starts p) from t
start_found p from start m t e f here =
    let low = f.low in
    let within = f.within in
    record {
      later = omega arith;
      passes = begin_starts p t (omega arith) (omega arith) (ap (begins p.expr) here ∙ f.begin);
      least = λ u le lt. false_from_ne_true (starts p u) (λ s.
          let v = started p u s in
          let first = v.low in
          false≢true (sym (f.before (minute_of u) (omega arith) (omega arith)) ∙ v.begin));
    }

pub start_missing : (p : Period) (from start : ℕ) → start ≡ max from p.first → HasNoBegin p.expr (minute_of start) (minute_of p.last + 1) → IsNever (starts p) from
start_missing p from start e none u low high =
    false_from_ne_true (starts p u) (λ s.
    let v = started p u s in
    let first = v.low in
    let end = v.high in
    false≢true (sym (none (minute_of u) (omega arith) (omega arith)) ∙ v.begin))

-- within the bounds, and within the length of a begin

abbrev pub lasts : Period → ℕ → Bool
lasts p t = begun_within p.expr p.expr.count (interval_of p.expr.unit (minute_of t))

pub record Within (p : Period) (t : ℕ) : Type 0 where
  pub low : p.first ≤ t
  pub high : t ≤ p.last
  pub last : lasts p t ≡ true

pub within : (p : Period) (t : ℕ) → inside p t ≡ true → Within p t
within p t h =
    let a = and_parts (nat_le p.first t && nat_le t p.last) (lasts p t) h in
    let b = and_parts (nat_le p.first t) (nat_le t p.last) a.0 in
    record { low = leb-true p.first t b.0; high = leb-true t p.last b.1; last = a.1 }

pub is_in : (p : Period) (t : ℕ) → p.first ≤ t → t ≤ p.last → lasts p t ≡ true → inside p t ≡ true
is_in p t low high b = and_from (in_bounds p t) (lasts p t) (bounded p t low high) b

pub before_bounds : (p : Period) (t : ℕ) → t < p.first → inside p t ≡ false
before_bounds p t h = false_from_ne_true (inside p t) (λ i. let low = (within p t i).low in absurd (omega arith))

pub after_bounds : (p : Period) (t : ℕ) → p.last < t → inside p t ≡ false
after_bounds p t h = false_from_ne_true (inside p t) (λ i. let high = (within p t i).high in absurd (omega arith))

-- a start is inside
pub start_inside : (p : Period) (t : ℕ) → is_expr p.expr ≡ true → starts p t ≡ true → inside p t ≡ true
start_inside p t h s =
    let e = p.expr in
    let v = started p t s in
    let k = interval_of e.unit (minute_of t) in
    let some = (valid e h).least in
    is_in p t v.low v.high (finds e e.count k k (omega arith) (omega arith) (ap (begins e) (unit_begin e (minute_of t) h v.begin) ∙ v.begin))

-- where being inside begins within the bounds, the period starts
rises : (p : Period) (t : ℕ) → is_expr p.expr ≡ true → p.first ≤ t → inside p t ≡ false → inside p (t + 1) ≡ true → starts p (t + 1) ≡ true
rises p t h low none some =
    let e = p.expr in
    let u = e.unit in
    let w = within p (t + 1) some in
    let high = w.high in
    let k = interval_of u (minute_of t) in
    let j = interval_of u (minute_of (t + 1)) in
    let f = found e e.count j (count_low e j h (omega (arith, goes_on u (minute_of (t + 1))))) w.last in
    let f_low = f.low in
    let f_high = f.high in
    let kj : k ≤ j = interval_not_falling u (minute_of t) (minute_of (t + 1)) (omega arith) in
    elim (cases_lt k f.at) [
      | inl lt ↦
          (let here : first_minute u f.at ≡ minute_of (t + 1) = omega (arith, not_falling u (k + 1) f.at (omega arith), goes_on u (minute_of t), not_falling u f.at j f.high, begun u (minute_of (t + 1)) (omega arith)) in
          begin_starts p (t + 1) (omega arith) high (ap (begins e) (sym here) ∙ f.begin))
      | inr ge ↦
          absurd (false≢true (sym none ∙ is_in p t low (omega arith) (finds e e.count k f.at ge (omega arith) f.begin)))
    ]

-- so it stays outside while nothing starts
stays_out : (p : Period) (from d : ℕ) → is_expr p.expr ≡ true → p.first ≤ from → inside p from ≡ false → ((u : ℕ) → from < u → u ≤ from + d → starts p u ≡ false) → inside p (from + d) ≡ false
stays_out p from zero h low out none = let e : from + zero ≡ from = omega arith in rw e out
stays_out p from (suc d) h low out none =
    let e : from + suc d ≡ from + d + 1 = omega arith in
    rw e (false_from_ne_true (inside p (from + d + 1)) (λ i.
    false≢true (sym (none (from + d + 1) (omega arith) (omega arith)) ∙ rises p (from + d) h (omega arith) (stays_out p from d h low out (λ u a b. none u a (omega arith))) i)))

out_until : (p : Period) (from u : ℕ) → is_expr p.expr ≡ true → p.first ≤ from → inside p from ≡ false → from ≤ u → ((v : ℕ) → from + 1 ≤ v → v ≤ u → starts p v ≡ false) → inside p u ≡ false
out_until p from u h low out le none =
    let e : from + (u - from) ≡ u = omega arith in
    rw e at (stays_out p from (u - from) h low out (λ v a b. none v (omega arith) (omega arith)))

-- the first instant inside, from an instant on

pub inside_here : (p : Period) (from start : ℕ) → start ≡ max from p.first → inside p start ≡ true → IsLeast (inside p) from start
inside_here p from start e i = record {
  later = omega arith;
  passes = i;
  least = λ u low lt. before_bounds p u (omega arith);
}

pub inside_by_start : (p : Period) (from start t : ℕ) → is_expr p.expr ≡ true → start ≡ max from p.first → inside p start ≡ false → IsLeast (starts p) (start + 1) t → IsLeast (inside p) from t
inside_by_start p from start t h e out n =
    let later = n.later in
    record {
      later = omega arith;
      passes = start_inside p t h n.passes;
      least = λ u low lt. elim (cases_lt u start) [
        | inl early ↦ before_bounds p u (omega arith)
        | inr ge ↦ out_until p start u h (omega arith) out ge (λ v a b. n.least v a (omega arith))
      ];
    }

pub inside_never : (p : Period) (from start : ℕ) → is_expr p.expr ≡ true → start ≡ max from p.first → inside p start ≡ false → IsNever (starts p) (start + 1) → IsNever (inside p) from
inside_never p from start h e out n u low high =
    elim (cases_lt u start) [
      | inl early ↦ before_bounds p u (omega arith)
      | inr ge ↦ out_until p start u h (omega arith) out ge (λ v a b. n v a (omega arith))
    ]

-- being inside does not change within a unit
same_unit : (p : Period) (t u : ℕ) → inside p t ≡ true → t ≤ u → u ≤ p.last → minute_of u < unit_first p.expr (interval_of p.expr.unit (minute_of t) + 1) → inside p u ≡ true
same_unit p t u i le high h =
    let w = within p t i in
    let low = w.low in
    let unit = p.expr.unit in
    let k = interval_of unit (minute_of t) in
    let same : interval_of unit (minute_of u) ≡ k = only unit (minute_of u) k (omega (arith, begun unit (minute_of t) (omega arith))) h in
    is_in p u (omega arith) high (ap (begun_within p.expr p.expr.count) same ∙ w.last)

pub stays_first : (p : Period) (after : ℕ) → inside p after ≡ true → StaysIn p after (interval_of p.expr.unit (minute_of after) + 1)
stays_first p after i u low high h = same_unit p after u i low high h

pub stays_to : (p : Period) (after k j : ℕ) → inside p after ≡ true → IsCovered p.expr k j → StaysIn p after k → StaysIn p after j
stays_to p after k j i c stays u low high h =
    let first = (within p after i).low in
    let unit = p.expr.unit in
    let i = interval_of unit (minute_of u) in
    elim (cases_lt (minute_of u) (unit_first p.expr k)) [
      | inl early ↦ stays u low high early
      | inr ge ↦
          (let from : k < i + 1 = before_first unit k (i + 1) (omega (arith, goes_on unit (minute_of u))) in
          let to : i < j = before_first unit i j (omega (arith, begun unit (minute_of u) (omega arith))) in
          is_in p u (omega arith) high (c.within i (omega arith) to))
    ]

pub out_found : (p : Period) (after k t : ℕ) → unit_first p.expr k ≡ minute_of t → interval_of p.expr.unit (minute_of after) < k → begun_within p.expr p.expr.count k ≡ false → StaysIn p after k → t ≤ p.last → IsLeast (outside p) (after + 1) t
out_found p after k t here later none stays high =
    let unit = p.expr.unit in
    let lt : minute_of after < minute_of t = omega (arith, goes_on unit (minute_of after), not_falling unit (interval_of unit (minute_of after) + 1) k (omega arith)) in
    let same : interval_of unit (minute_of t) ≡ k = ap (interval_of unit) (sym here) ∙ at_first unit k in
    let out : lasts p t ≡ false = ap (begun_within p.expr p.expr.count) same ∙ none in
    record {
      later = omega arith;
      passes = ap not (and_right (in_bounds p t) (lasts p t) out);
      least = λ u low lt. ap not (stays u (omega arith) (omega arith) (omega arith));
    }

pub out_past : (p : Period) (after t : ℕ) → inside p after ≡ true → t ≡ p.last + 1 → StaysAll p after → IsLeast (outside p) (after + 1) t
out_past p after t i e stays =
    let last = (within p after i).high in
    record {
      later = omega arith;
      passes = ap not (after_bounds p t (omega arith));
      least = λ u low lt. ap not (stays u (omega arith) (omega arith));
    }

pub out_never : (p : Period) (after : ℕ) → LAST_MINUTE ≤ p.last → StaysAll p after → IsNever (outside p) (after + 1)
out_never p after le stays u low high = ap not (stays u (omega arith) (omega arith))

pub unit_later : (e : Expr) (m k : ℕ) → interval_of e.unit m < k → m < unit_first e k
unit_later e m k h = omega (arith, goes_on e.unit m, not_falling e.unit (interval_of e.unit m + 1) k (omega arith))

-- passing on what another call answered

pub some_by : (r : Option ℕ) (P Q : ℕ → Type 0) → ((t : ℕ) → P t → Q t) → IfSome r P → IfSome r Q
some_by (Some t) P Q f h = f t h
some_by None P Q f h = tt

pub none_by : (r : Option ℕ) (P Q : Type 0) → (P → Q) → IfNone r P → IfNone r Q
none_by (Some t) P Q f h = tt
none_by None P Q f h = f h
