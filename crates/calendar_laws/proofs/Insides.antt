-- `inside` is In.
use Rattle.std.proofs.Common.{◌≡◌, ◌↔◌, ℕ, zero, suc, ◌+◌, ◌-◌, ◌<◌, ◌≤◌, true, refl, arith, ap, sym, ◌∙◌, inl, inr, IsTrue}
use Rattle.std.proofs.lemmas.Bool.{false≢true, and_parts, and_from, or_cases, or_left, or_right, cases_eq}
use Rattle.gtrbac_model.specs.declared.calendars.Calendar.{Calendar}
use Rattle.gtrbac_model.specs.declared.calendars.Calendar.TheVariants.{Years, Months, Weeks, Days, Hours, Minutes}
use Rattle.gtrbac_model.specs.Calendar.{minute_of, first_minute, interval_of}
use Rattle.gtrbac_model.specs.Period.{Expr, Period, begins, begun_within, in_bounds, starts, inside, Begin, End, In}
use Rattle.gtrbac_model.specs.Valid.{is_expr}
use Rattle.calendar_laws.specs.Meanings.{Start}
use Rattle.gtrbac_model.proofs.Covers.{begun, goes_on, before_first, one_first, not_falling}
use Rattle.calendar_laws.proofs.Begins.{valid, begins_means, begin_counts}

-- one of the n intervals up to number k begins where the expression does
pub record Found (e : Expr) (n k : ℕ) : Type 0 where
  pub at : ℕ
  pub low : k < at + n
  pub high : at ≤ k
  pub begin : begins e (first_minute e.unit at) ≡ true

pub found : (e : Expr) (n k : ℕ) → n ≤ k → begun_within e n k ≡ true → Found e n k
found e zero k h b = absurd (false≢true b)
found e (suc n) k h b =
    elim (or_cases (begins e (first_minute e.unit k)) (begun_within e n (k - 1)) b) [
      | inl here ↦ record { at = k; low = omega arith; high = omega arith; begin = here }
      | inr before ↦
          (let f = found e n (k - 1) (omega arith) before in
          let low = f.low in
          let high = f.high in
          record { at = f.at; low = omega arith; high = omega arith; begin = f.begin })
    ]

pub finds : (e : Expr) (n k j : ℕ) → j ≤ k → k < j + n → begins e (first_minute e.unit j) ≡ true → begun_within e n k ≡ true
finds e zero k j low high b = absurd (omega arith)
finds e (suc n) k j low high b =
    elim (cases_eq j k) [
      | inl e' ↦ or_left (begins e (first_minute e.unit k)) (begun_within e n (k - 1)) (ap (λ i. begins e (first_minute e.unit i)) (sym e') ∙ b)
      | inr ne ↦ or_right (begins e (first_minute e.unit k)) (begun_within e n (k - 1)) (finds e n (k - 1) j (omega arith) (omega arith) b)
    ]

-- an interval that begins before instant 0, and a thousand of them before it
abbrev pub early : Calendar → ℕ
early Minutes = 5000
early _ = 2000

early_first : (c : Calendar) → first_minute c (early c) ≤ 1_051_898_400
early_first Years = omega arith
early_first Months = omega arith
early_first Weeks = omega arith
early_first Days = omega arith
early_first Hours = omega arith
early_first Minutes = omega arith

early_enough : (c : Calendar) → 2880 ≤ first_minute c (early c - 1000)
early_enough Years = omega arith
early_enough Months = omega arith
early_enough Weeks = omega arith
early_enough Days = omega arith
early_enough Hours = omega arith
early_enough Minutes = omega arith

pub thousand : (c : Calendar) → 1000 ≤ early c
thousand Years = omega arith
thousand Months = omega arith
thousand Weeks = omega arith
thousand Days = omega arith
thousand Hours = omega arith
thousand Minutes = omega arith

-- the interval at an instant is later than that
pub late : (c : Calendar) (t : ℕ) → early c ≤ interval_of c (minute_of t)
late c t =
    let k = interval_of c (minute_of t) in
    let lt : early c < k + 1 = before_first c (early c) (k + 1) (omega (arith, early_first c, goes_on c (minute_of t))) in
    omega arith

abbrev pub In' : Period → ℕ → Type 0
In' p t = (s : ℕ) × (m : ℕ) × Begin p.expr s × End p.expr s m × (s ≤ minute_of t) × (minute_of t < m)

within_means : (p : Period) (t : ℕ) → is_expr p.expr ≡ true → begun_within p.expr p.expr.count (interval_of p.expr.unit (minute_of t)) ≡ true → In' p t
within_means p t h b =
    let e = p.expr in
    let u = e.unit in
    let k = interval_of u (minute_of t) in
    let v = valid e h in
    let most = v.most in
    let k_late : early u ≤ k = late u t in
    let base : 1000 ≤ early u = thousand u in
    let f = found e e.count k (omega arith) b in
    let low = f.low in
    let high = f.high in
    let s_late : 2880 ≤ first_minute u f.at = omega (arith, early_enough u, not_falling u (early u - 1000) f.at (omega arith)) in
    let before : first_minute u f.at ≤ minute_of t = omega (arith, not_falling u f.at k high, begun u (minute_of t) (omega arith)) in
    let after : minute_of t < first_minute u (f.at + e.count) = omega (arith, goes_on u (minute_of t), not_falling u (k + 1) (f.at + e.count) (omega arith)) in
    (first_minute u f.at, first_minute u (f.at + e.count), begins_means e (first_minute u f.at) h s_late f.begin, (f.at, refl, refl), before, after)

within_counts : (p : Period) (t : ℕ) → is_expr p.expr ≡ true → In' p t → begun_within p.expr p.expr.count (interval_of p.expr.unit (minute_of t)) ≡ true
within_counts p t h (s, m, b, (j, from, to), before, after) =
    let e = p.expr in
    let u = e.unit in
    let k = interval_of u (minute_of t) in
    let low : j < k + 1 = before_first u j (k + 1) (omega (arith, from, goes_on u (minute_of t))) in
    let high : k < j + e.count = before_first u k (j + e.count) (omega (arith, to, begun u (minute_of t) (omega arith))) in
    finds e e.count k j (omega arith) high (ap (begins e) from ∙ begin_counts e s h b)

pub insides_are : (p : Period) (t : ℕ) → IsTrue (is_expr p.expr) → IsTrue (inside p t) ↔ In p t
insides_are p t h =
    let b = in_bounds p t in
    let w = begun_within p.expr p.expr.count (interval_of p.expr.unit (minute_of t)) in
    (λ x. (let both = and_parts b w x in (both.0, within_means p t h both.1)), λ y. and_from b w y.0 (within_counts p t h y.1))

pub starts_are : (p : Period) (t : ℕ) → IsTrue (is_expr p.expr) → IsTrue (starts p t) ↔ Start p t
starts_are p t h =
    let b = in_bounds p t in
    let w = begins p.expr (minute_of t) in
    (λ x. (let both = and_parts b w x in (both.0, begins_means p.expr (minute_of t) h (omega arith) both.1)), λ y. and_from b w y.0 (begin_counts p.expr (minute_of t) h y.1))

pub begins_are : (e : Expr) (t : ℕ) → IsTrue (is_expr e) → IsTrue (begins e (minute_of t)) ↔ Begin e (minute_of t)
begins_are e t h = (begins_means e (minute_of t) h (omega arith), begin_counts e (minute_of t) h)

-- a later begin never has an earlier end
pub ends_do_not_cross : (e : Expr) (s s' m m' : ℕ) → End e s m → End e s' m' → s ≤ s' → m ≤ m'
ends_do_not_cross e s s' m m' (j, a, b) (j', a', b') h =
    elim (cases_eq s s') [
      | inl same ↦ (let e' : j ≡ j' = one_first e.unit j j' (a ∙ same ∙ sym a') in omega (arith, b, b', not_falling e.unit (j + e.count) (j' + e.count) (omega arith)))
      | inr ne ↦
          (let lt : j < j' = before_first e.unit j j' (omega (arith, a, a')) in
          omega (arith, b, b', not_falling e.unit (j + e.count) (j' + e.count) (omega arith)))
    ]
