-- That what is told of an event of a settled set has a reason, and a converse where it is blocked.
use Rattle.std.proofs.Common.{◌≡◌, ℕ, zero, suc, ◌+◌, ◌<◌, ◌≤◌, Bool, true, false, cond, not, ◌&&◌, List, [], ◌∷◌, length, Option, Some, None, inl, inr, refl, sym, ◌∙◌, ap, subst, arith}
use Rattle.std.proofs.Common.{true≢false, nat_lt}
use Rattle.std.proofs.lemmas.Bool.{ltb-true, ltb-false}
use Rattle.std.specs.Prelude.{if◌then◌else◌}
use Rattle.std.specs.List.{list_any, list_all}
use Rattle.gt_base.specs.Held.{TriggerView}
use Rattle.gt_base.specs.Events.{converse}
use Rattle.gt_base.specs.Happening.{HappenedView}
use Rattle.gt_base.specs.Sets.{has, members}
use Rattle.gt_base.specs.declared.events.Event.{Event}
use Rattle.gt_base.specs.declared.events.Prioritised.{Prioritised}
use Rattle.gt_base.proofs.OrderLaws.{prioritised_cmp-IsAntisymmetric}
use Rattle.gt_base.proofs.SetSteps.{prioritised_cmp_total}
use Rattle.gtrbac_model.specs.Conflict.{Status, beats, blocked, greatest_below, seen, stands_at, won_at}
use Rattle.gtrbac_model.specs.Instant.{Settled, stands, grounded_after, supported}
use Rattle.gtrbac_model.specs.Same.{same_event, same_prioritised}
use Rattle.gtrbac_model.specs.Trigger.{immediate, met}
use Rattle.gtrbac_model.proofs.Elements.{Elem, split, any_elim, both_true, either_true, elem_of_set_of, has_of_elem}
use Rattle.gtrbac_model.proofs.Uniqueness.{is_same_event}
use Rattle.gtrbac_tool.specs.Standing.{at_prio, raises, first_raising}
use Rattle.why_check.specs.Priorities.{HasPriorities}
use Rattle.gtrbac_tool.specs.Reasons.{HasReason, HasConverse, IsExplained, ReasonsExist}

module _ (rules : List TriggerView) (base : HappenedView) (before : Status) (x : HappenedView) where
  abbrev supports : List Prioritised → Prioritised → TriggerView → Bool
  supports earlier e r = immediate r && same_prioritised r.head e && met r x before && list_all (stands x earlier) r.events

  -- where some trigger supports the event a first one raises it
  first_of : (earlier : List Prioritised) (e : Prioritised) (n : ℕ) (rs : List TriggerView) → list_any (supports earlier e) rs ≡ true
      → (k : ℕ) × (n ≤ k) × (k < n + length rs) × (first_raising x before e n rs ≡ Some k)
  first_of earlier e n [] some = cc
  first_of earlier e n (r ∷ rs) some =
      split (raises x before e r)
      (λ yes. (n, omega arith, omega arith, λ i. if yes i then Some n else first_raising x before e (n + 1) rs))
      (λ no.
      let rest : list_any (supports earlier e) rs ≡ true =
      elim (either_true (supports earlier e r) (list_any (supports earlier e) rs) some) [
        | inl h ↦ let yes = (both_true (raises x before e r) (list_all (stands x earlier) r.events) h).0 in cc
        | inr h ↦ h
      ] in
      let found = first_of earlier e (n + 1) rs rest in
      let low = found.1 in
      let high = found.2 in
      (found.0, omega (arith, low), omega (arith, high), (λ i. if no i then Some n else first_raising x before e (n + 1) rs) ∙ found.3))

  reason_by : (earlier : List Prioritised) (e : Prioritised) → supported rules base before x earlier e ≡ true → HasReason rules base before x e
  reason_by earlier e h =
      elim (either_true (has base.events e) (list_any (supports earlier e) rules) h) [
        | inl b ↦ inl b
        | inr a ↦ let found = first_of earlier e 1 rules a in let high = found.2 in inr (found.0, found.1, omega (arith, high), found.3)
      ]

  reason_along : (earlier rest : List Prioritised) (e : Prioritised) → grounded_after rules base before x earlier rest ≡ true → Elem rest e → HasReason rules base before x e
  reason_along earlier [] e g m = elim m [ ]
  reason_along earlier (d ∷ ds) e g (inl is) =
      subst (HasReason rules base before x) (sym is) (reason_by earlier d (both_true (supported rules base before x earlier d) (grounded_after rules base before x (d ∷ earlier) ds) g).0)
  reason_along earlier (d ∷ ds) e g (inr m) =
      reason_along (d ∷ earlier) ds e (both_true (supported rules base before x earlier d) (grounded_after rules base before x (d ∷ earlier) ds) g).1 m

  -- an event of the set has a reason
  reason_of : Settled rules base before x → (e : Prioritised) → has x.events e ≡ true → HasReason rules base before x e
  reason_of is e h =
      reason_along [] is.order e is.grounding.grounds
      (elem_of_set_of prioritised_cmp_total prioritised_cmp-IsAntisymmetric is.order e (subst (λ z. has z e ≡ true) is.grounding.lists h))

-- what the greatest number is
pub greatest_holds : (f : ℕ → Bool) (n p : ℕ) → greatest_below f n ≡ Some p → (p < n) × (f p ≡ true)
greatest_holds f zero p is = cc
greatest_holds f (suc n) p is =
    split (f n)
    (λ yes.
    let same : n ≡ p = some_same n p (sym (λ i. cond (yes i) (Some n) (greatest_below f n)) ∙ is) in
    (omega (arith, same), ap f (sym same) ∙ yes))
    (λ no. let below = greatest_holds f n p (sym (λ i. cond (no i) (Some n) (greatest_below f n)) ∙ is) in let low = below.0 in (omega (arith, low), below.1))
  where
    some_same : (a b : ℕ) → Some a ≡ Some b → a ≡ b
    some_same a b h = cc

none_holds : (f : ℕ → Bool) (n p : ℕ) → greatest_below f n ≡ None → p < n → f p ≡ false
none_holds f zero p is lt = absurd (omega (arith, lt))
none_holds f (suc n) p is lt =
    split (f n)
    (λ yes. absurd (some_none n (sym (λ i. cond (yes i) (Some n) (greatest_below f n)) ∙ is)))
    (λ no.
    split (nat_lt p n)
    (λ less. none_holds f n p (sym (λ i. cond (no i) (Some n) (greatest_below f n)) ∙ is) (ltb-true p n less))
    (λ more. let same : p ≡ n = omega (arith, lt, ltb-false p n more) in ap f same ∙ no))
  where
    some_none : (a : ℕ) → Some a ≡ None → ⊥
    some_none a h = cc

-- where one number passes there is a greatest
some_greatest : (f : ℕ → Bool) (n k : ℕ) → k < n → f k ≡ true → (q : ℕ) × (q < n) × (greatest_below f n ≡ Some q)
some_greatest f zero k lt holds = absurd (omega (arith, lt))
some_greatest f (suc n) k lt holds =
    split (f n)
    (λ here. (n, omega arith, λ i. cond (here i) (Some n) (greatest_below f n)))
    (λ no.
    split (nat_lt k n)
    (λ less.
    let found = some_greatest f n k (ltb-true k n less) holds in
    let low = found.1 in
    (found.0, omega (arith, low), (λ i. cond (no i) (Some n) (greatest_below f n)) ∙ found.2))
    (λ more. let same : k ≡ n = omega (arith, lt, ltb-false k n more) in let here : f n ≡ true = ap f (sym same) ∙ holds in absurd (true≢false (sym here ∙ no))))

module _ (rules : List TriggerView) (base : HappenedView) (before : Status) (x : HappenedView) (is : Settled rules base before x) (few : HasPriorities x) (e : Event) where
  reason_at : (p : ℕ) → stands_at x e p ≡ true → HasReason rules base before x (at_prio p e)
  reason_at p h = reason_of rules base before x is (at_prio p e) h

  -- what blocks an event is its converse
  converse_of : (p : ℕ) → blocked x (at_prio p e) ≡ true → HasConverse x e
  converse_of p b =
      let (o, m, h) = any_elim (λ (o : Prioritised). same_event o.event (converse e) && beats e.on o.prio p) (members x.events) b in
      let there : has x.events o ≡ true = has_of_elem prioritised_cmp_total prioritised_cmp-IsAntisymmetric x.events o m in
      let turned : o.event ≡ converse e = is_same_event o.event (converse e) (both_true (same_event o.event (converse e)) (beats e.on o.prio p) h).0 in
      let stands : stands_at x (converse e) o.prio ≡ true = (λ i. has x.events (record { prio = o.prio; event = sym turned i })) ∙ there in
      let low = few o there in
      let found = some_greatest (stands_at x (converse e)) 101 o.prio (omega (arith, low)) stands in
      let high = found.1 in
      (found.0, omega (arith, high), found.2)

  explained_by : (a b : Option ℕ) → greatest_below (won_at x e) 101 ≡ a → greatest_below (stands_at x e) 101 ≡ b → IsExplained rules base before x e (seen x e)
  explained_by (Some p) b won stood =
      rw won (reason_at p (both_true (stands_at x e p) (not (blocked x (at_prio p e))) (greatest_holds (won_at x e) 101 p won).1).0)
  explained_by None (Some p) won stood =
      let at = greatest_holds (stands_at x e) 101 p stood in
      rw (won, stood) (reason_at p at.1, converse_of p (is_blocked (stands_at x e p) (blocked x (at_prio p e)) at.1 (none_holds (won_at x e) 101 p won at.0)))
    where
      is_blocked : (a b : Bool) → a ≡ true → (a && not b) ≡ false → b ≡ true
      is_blocked true true a h = refl
      is_blocked true false a h = cc
      is_blocked false b a h = cc
  explained_by None None won stood = rw (won, stood) tt

pub reasons_exist : ReasonsExist
reasons_exist rules base before x is few e = explained_by rules base before x is few e (greatest_below (won_at x e) 101) (greatest_below (stands_at x e) 101) refl refl
