-- The numbers of the triggers that pass a test.
use Rattle.std.proofs.Common.{◌≡◌, ℕ, zero, suc, ◌+◌, Bool, true, false, cond, List, [], ◌∷◌, Some, refl, sym, ◌∙◌, ap, subst, arith, inl, inr}
use Rattle.std.specs.List.{list_any}
use Rattle.std.specs.Cmp.{IsTotalOrder}
use Rattle.std.specs.FinMap.{IsAntisymmetric}
use Rattle.std.specs.Ordering.{eq_by_cmp}
use Rattle.std.specs.declared.cmp.Ordering.{Ordering}
use Rattle.gt_base.proofs.SetSteps.{event_cmp_total, signal_cmp_total}
use Rattle.gt_base.proofs.OrderLaws.{event_cmp-IsAntisymmetric, signal_cmp-IsAntisymmetric}
use Rattle.gt_base.specs.Held.{TriggerView}
use Rattle.gtrbac_model.specs.Graph.{item_at}
use Rattle.gtrbac_model.proofs.Elements.{either_true, left_true, right_true, equal_by, tied}
use Rattle.trigger_rules.specs.Indexed.{numbers, has_event, has_signal, with_event, with_signal}
use Rattle.trigger_rules.specs.Indexes.{IsAmong, EventsAreIndexed, SignalsAreIndexed, Ascend, IndexesAscend}

-- what is listed stands at a place
module _ {K : Type 0} {R : K → K → Ordering} (o : IsTotalOrder R) (same : IsAntisymmetric R) where
  stands : (xs : List K) (x : K) → list_any (eq_by_cmp R x) xs ≡ true → IsAmong xs x
  stands [] x h = cc
  stands (y ∷ ys) x h =
      elim (either_true (eq_by_cmp R x y) _ h) [
        | inl e ↦ (0, ap (λ z. Some z) (sym (equal_by o same x y e)))
        | inr more ↦ let (place, at) = stands ys x more in (suc place, at)
      ]

  listed : (xs : List K) (x : K) (place : ℕ) → item_at xs place ≡ Some x → list_any (eq_by_cmp R x) xs ≡ true
  listed [] x place at = cc
  listed (y ∷ ys) x zero at = let is : y ≡ x = cc in left_true (eq_by_cmp R x y) _ (tied o same x y (sym is))
  listed (y ∷ ys) x (suc place) at = right_true (eq_by_cmp R x y) _ (listed ys x place at)

-- a trigger that passes stands so many places on
pub record Passes (p : TriggerView → Bool) (n : ℕ) (rules : List TriggerView) (m : ℕ) : Type 0 where
  pub place : ℕ
  pub number : m ≡ n + place
  pub rule : TriggerView
  pub is : item_at rules place ≡ Some rule
  pub passes : p rule ≡ true

further : (p : TriggerView → Bool) (n : ℕ) (r : TriggerView) (rs : List TriggerView) (m : ℕ) → Passes p (n + 1) rs m → Passes p n (r ∷ rs) m
further p n r rs m h = record { place = suc h.place; number = omega (arith, h.number); rule = h.rule; is = h.is; passes = h.passes }

numbered : (p : TriggerView → Bool) (n : ℕ) (rs : List TriggerView) (m place : ℕ) → item_at (numbers p n rs) place ≡ Some m → Passes p n rs m
numbered p n [] m place at = cc
numbered p n (r ∷ rs) m place at = by (p r) refl (numbered p (n + 1) rs m) place at
  where
    by : (b : Bool) → p r ≡ b → ((k : ℕ) → item_at (numbers p (n + 1) rs) k ≡ Some m → Passes p (n + 1) rs m)
        → (k : ℕ) → item_at (cond b (n ∷ numbers p (n + 1) rs) (numbers p (n + 1) rs)) k ≡ Some m → Passes p n (r ∷ rs) m
    by true e more zero at = let is : n ≡ m = cc in record { place = 0; number = omega (arith, is); rule = r; is = refl; passes = e }
    by true e more (suc k) at = further p n r rs m (more k at)
    by false e more k at = further p n r rs m (more k at)

counted : (p : TriggerView → Bool) (n : ℕ) (rs : List TriggerView) (k : ℕ) (r : TriggerView) → item_at rs k ≡ Some r → p r ≡ true → IsAmong (numbers p n rs) (n + k)
counted p n [] k r is h = cc
counted p n (q ∷ rs) zero r is h =
    let same : q ≡ r = cc in
    let passes : p q ≡ true = ap p same ∙ h in
    subst (λ b. IsAmong (cond b (n ∷ numbers p (n + 1) rs) (numbers p (n + 1) rs)) (n + 0)) (sym passes) (0, ap (λ m. Some m) (omega arith))
counted p n (q ∷ rs) (suc k) r is h = by (p q) (counted p (n + 1) rs k r is h)
  where
    by : (b : Bool) → IsAmong (numbers p (n + 1) rs) (n + 1 + k) → IsAmong (cond b (n ∷ numbers p (n + 1) rs) (numbers p (n + 1) rs)) (n + suc k)
    by true (place, at) = (suc place, at ∙ ap (λ m. Some m) (omega arith))
    by false (place, at) = (place, at ∙ ap (λ m. Some m) (omega arith))

ascends : (p : TriggerView → Bool) (n : ℕ) (rs : List TriggerView) → Ascend (numbers p n rs)
ascends p n [] = λ i j m k lt at_i at_j. cc
ascends p n (r ∷ rs) = by (p r) (ascends p (n + 1) rs) (numbered p (n + 1) rs)
  where
    by : (b : Bool) → Ascend (numbers p (n + 1) rs) → ((m place : ℕ) → item_at (numbers p (n + 1) rs) place ≡ Some m → Passes p (n + 1) rs m)
        → Ascend (cond b (n ∷ numbers p (n + 1) rs) (numbers p (n + 1) rs))
    by false more from = more
    by true more from = both
      where
        both : Ascend (n ∷ numbers p (n + 1) rs)
        both zero zero m k lt at_i at_j = absurd (omega (arith, lt))
        both zero (suc j) m k lt at_i at_j = let is : n ≡ m = cc in let later = from k j at_j in omega (arith, is, later.number)
        both (suc i) zero m k lt at_i at_j = absurd (omega (arith, lt))
        both (suc i) (suc j) m k lt at_i at_j = more i j m k (omega (arith, lt)) at_i at_j

from_first : (ns : List ℕ) (n : ℕ) → IsAmong ns (0 + n) → IsAmong ns n
from_first ns n h = subst (IsAmong ns) (same n) h
  where
    same : (m : ℕ) → 0 + m ≡ m
    same m = omega arith

pub events_are_indexed : EventsAreIndexed
events_are_indexed rules e n = (
  λ (place, at). let h = numbered (has_event e) 0 rules n place at in
      record { rule = h.rule; is = ap (item_at rules) (omega (arith, h.number)) ∙ h.is; has = stands event_cmp_total event_cmp-IsAntisymmetric h.rule.events e h.passes },
  λ h. from_first (with_event rules e) n (counted (has_event e) 0 rules n h.rule h.is (listed event_cmp_total event_cmp-IsAntisymmetric h.rule.events e h.has.0 h.has.1)),
)

pub signals_are_indexed : SignalsAreIndexed
signals_are_indexed rules s n = (
  λ (place, at). let h = numbered (has_signal s) 0 rules n place at in
      record { rule = h.rule; is = ap (item_at rules) (omega (arith, h.number)) ∙ h.is; has = stands signal_cmp_total signal_cmp-IsAntisymmetric h.rule.signals s h.passes },
  λ h. from_first (with_signal rules s) n (counted (has_signal s) 0 rules n h.rule h.is (listed signal_cmp_total signal_cmp-IsAntisymmetric h.rule.signals s h.has.0 h.has.1)),
)

pub indexes_ascend : IndexesAscend
indexes_ascend = record { events = λ rules e. ascends (has_event e) 0 rules; signals = λ rules s. ascends (has_signal s) 0 rules }
