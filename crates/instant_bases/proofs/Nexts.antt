-- Least instants under tests that agree.
use Rattle.std.proofs.Common.{◌≡◌, ℕ, ◌+◌, ◌-◌, ◌<◌, ◌≤◌, Bool, true, false, ◌&&◌, ◌||◌, not, nat_eq, nat_le, List, ◌++◌, length, take, get_or, flat_map, Option, Some, None, refl, sym, ◌∙◌, ap, subst, arith}
use Rattle.std.specs.Prelude.{max, IfSome, IfNone}
use Rattle.std.proofs.lemmas.Bool.{le-leb, leb-true}
use Rattle.gt_base.specs.declared.events.Prioritised.{Prioritised}
use Rattle.gt_base.specs.declared.events.Fluent.{Fluent}
use Rattle.gt_base.specs.declared.policies.Form.{Form}
use Rattle.gt_base.specs.declared.policies.Form.TheVariants.{Each, Start, Span}
use Rattle.gt_base.specs.declared.policies.LimitRule.{LimitRule}
use Rattle.gt_base.specs.declared.policies.PeriodicEntry.{PeriodicEntry}
use Rattle.gt_base.specs.declared.limits.TheConstants.{LAST_MINUTE}
use Rattle.gtrbac_model.specs.Base.{when, turned, limited_from, is_ripe}
use Rattle.gtrbac_model.specs.Conflict.{Status}
use Rattle.gtrbac_model.specs.Graph.{item_at}
use Rattle.gtrbac_model.specs.Period.{Period, inside, starts}
use Rattle.gtrbac_model.specs.History.{is_some_item}
use Rattle.calendar_match.specs.Next.{IsNext, HasNone, differ, turns}
use Rattle.instant_bases.specs.Nexts.{IsNextOf, raises, ending}
use Rattle.instant_bases.proofs.Joining.{is_some-append, raised_more, limited_more}

-- the same test by another name
pub by_test : (f g : ℕ → Bool) (after : ℕ) (r : Option ℕ) → ((t : ℕ) → f t ≡ g t) → IsNextOf f after r → IsNextOf g after r
by_test f g after r same h = subst (λ test. IsNextOf test after r) (λ i t. same t i) h

-- an answer by its two clauses
pub as_next : (test : ℕ → Bool) (after : ℕ) (r : Option ℕ) → IfSome r (λ t. IsNext test after t) → IfNone r (HasNone test after) → IsNextOf test after r
as_next test after None s n = n
as_next test after (Some t) s n = s

-- one entry more
pub some_more : {A B : Type 0} (f : ℕ → A → List B) (xs : List A) (i : ℕ) (d : A) → i < length xs → (after : ℕ) (r : Option ℕ)
    → IsNextOf (λ t. is_some_item (flat_map (f t) (take i xs)) || is_some_item (f t (get_or xs i d))) after r → IsNextOf (λ t. is_some_item (flat_map (f t) (take (i + 1) xs))) after r
some_more f xs i d lt after r h =
    by_test _ _ after r (λ t. sym (is_some-append (flat_map (f t) (take i xs)) (f t (get_or xs i d))) ∙ ap is_some_item (sym (raised_more (f t) xs i d lt))) h

-- a test that also waits for an instant
pub waits : (aged q : ℕ → Bool) (from after now : ℕ) (r : Option ℕ) → after ≡ max (from - 1) now → ((t : ℕ) → now < t → t ≤ LAST_MINUTE → aged t ≡ nat_le from t)
    → IfSome r (λ t. t ≤ LAST_MINUTE) → IsNextOf q after r → IsNextOf (λ t. aged t && q t) now r
waits aged q from after now None is same bound h = λ u low high. by u low high (nat_le from u) refl
  where
    by : (u : ℕ) → now + 1 ≤ u → u ≤ LAST_MINUTE → (b : Bool) → nat_le from u ≡ b → (aged u && q u) ≡ false
    by u low high true e =
        let le : from ≤ u = leb-true from u e in
        ap (λ b. b && q u) (same u (omega (arith, low)) high ∙ e) ∙ h u (omega (arith, is, le, low)) high
    by u low high false e = ap (λ b. b && q u) (same u (omega (arith, low)) high ∙ e)
waits aged q from after now (Some t) is same bound h =
    let late : from ≤ t = omega (arith, is, h.later) in
    let past : now < t = omega (arith, is, h.later) in
    record {
      later = omega (arith, is, h.later);
      passes = ap (λ b. b && q t) (same t past bound ∙ le-leb from t late) ∙ h.passes;
      least = λ u low high. by u low high (nat_le from u) refl;
    }
  where
    by : (u : ℕ) → now + 1 ≤ u → u < t → (b : Bool) → nat_le from u ≡ b → (aged u && q u) ≡ false
    by u low high true e =
        let le : from ≤ u = leb-true from u e in
        let below : u ≤ LAST_MINUTE = omega (arith, high, bound) in
        ap (λ b. b && q u) (same u (omega (arith, low)) below ∙ e) ∙ h.least u (omega (arith, is, le, low)) high
    by u low high false e =
        let below : u ≤ LAST_MINUTE = omega (arith, high, bound) in
        ap (λ b. b && q u) (same u (omega (arith, low)) below ∙ e)

-- a span raises something where it turns, and in the first minute where it is there
pub span_raises : (is was first : Bool) (e o : Prioritised) → (differ is was || (first && is)) ≡ is_some_item (when (is && (first || not was)) e ++ when (was && not is) o)
span_raises true true true e o = refl
span_raises true true false e o = refl
span_raises true false true e o = refl
span_raises true false false e o = refl
span_raises false true true e o = refl
span_raises false true false e o = refl
span_raises false false true e o = refl
span_raises false false false e o = refl

abbrev tested : (Period → ℕ → Bool) → Option Period → ℕ → Bool
tested test o t = elim o [ Some q ↦ test q t | None ↦ false ]

-- what an entry of this form raises over a period that was looked up
abbrev raised_of : Form → Option Period → ℕ → ℕ → Prioritised → List Prioritised
raised_of form o birth t head =
    elim form [
      | Each ↦ when (tested inside o t) head
      | Start ↦ when (tested starts o t) head
      | Span ↦ when (tested inside o t && (nat_eq t (birth + 1) || not (tested inside o (t - 1)))) head ++ when (tested inside o (t - 1) && not (tested inside o t)) (turned head)
    ]

pub span_next : (periods : List Period) (birth now : ℕ) (e : PeriodicEntry) (q : Period) (r : Option ℕ) → e.form ≡ Span → item_at periods e.period.0 ≡ Some q
    → IsNextOf (λ t. turns q t || (nat_eq t (birth + 1) && inside q t)) now r → IsNextOf (raises periods birth e) now r
span_next periods birth now e q r form item h =
    by_test _ _ now r (λ t. span_raises (inside q t) (inside q (t - 1)) (nat_eq t (birth + 1)) e.head (turned e.head) ∙ (λ i. is_some_item (raised_of (sym form i) (sym item i) birth t e.head))) h

some_when : {A : Type 0} (b : Bool) (x : A) → b ≡ is_some_item (when b x)
some_when true x = refl
some_when false x = refl

-- one limit more
pub limit_more : (periods : List Period) (st : Status) (since : Fluent → ℕ) (ls : List LimitRule) (i : ℕ) (d : LimitRule) → i < length ls → (after : ℕ) (r : Option ℕ)
    → IsNextOf (λ t. is_some_item (limited_from periods st since 0 (take i ls) t) || is_ripe periods st since i (get_or ls i d) t) after r
    → IsNextOf (λ t. is_some_item (limited_from periods st since 0 (take (i + 1) ls) t)) after r
limit_more periods st since ls i d lt after r h =
    by_test _ _ after r
    (λ t.
    ap (λ b. is_some_item (limited_from periods st since 0 (take i ls) t) || b) (some_when (is_ripe periods st since i (get_or ls i d) t) (ending (get_or ls i d)))
    ∙ sym (is_some-append (limited_from periods st since 0 (take i ls) t) _) ∙ ap is_some_item (sym (limited_more periods st since t ls i d lt)))
    h
