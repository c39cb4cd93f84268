-- One event more among those whose peaks are kept.
use Rattle.std.proofs.Common.{◌≡◌, ℕ, suc, ◌+◌, ◌≤◌, Bool, true, false, cond, not, ◌&&◌, ◌||◌, nat_lt, List, [], ◌∷◌, ◌++◌, take, Option, Some, None, refl, sym, ◌∙◌, ap, subst, arith}
use Rattle.std.specs.List.{list_any}
use Rattle.std.proofs.lemmas.Bool.{ltb-true, ltb-false, leb-true, le-leb, lt-ltb}
use Rattle.gt_base.specs.declared.events.Event.{Event}
use Rattle.gt_base.specs.declared.events.Prioritised.{Prioritised}
use Rattle.gtrbac_model.specs.Conflict.{beats}
use Rattle.gtrbac_model.specs.Same.{same_event}
use Rattle.priority_conflict.proofs.OverLaws.{any_more}
use Rattle.std.specs.Cmp.{both_ways}
use Rattle.std.proofs.lemmas.Bool.{false≢true}
use Rattle.gt_base.specs.declared.events.Fluent.{Fluent}
use Rattle.gt_base.specs.Events.{converse}
use Rattle.gt_base.specs.Happening.{HappenedView}
use Rattle.gt_base.specs.Orders.{fluent_eq}
use Rattle.gt_base.specs.Sets.{has, members}
use Rattle.gt_base.specs.contracts.events.FluentEq.TheImpl.Laws.{laws-law}
use Rattle.gtrbac_model.specs.Conflict.{blocked, won}
use Rattle.gtrbac_model.proofs.Elements.{Elem, both_true, and_true, split, any_elim, any_intro}
use Rattle.gtrbac_model.proofs.Uniqueness.{of_elem, is_same_event, same_event_of}
use Rattle.priority_conflict.proofs.WhoLeads.{one_fluent}
use Rattle.why_check.specs.Peaks.{ArePeaks, peak_with, beaten_from, wins_from, side, sides_with, peak_in}
use Rattle.why_check.specs.declared.sides.Sides.{Sides}

-- what a priority blocks, a greater one blocks
beats_more : (on : Bool) (q r p : ℕ) → q ≤ r → beats on q p ≡ true → beats on r p ≡ true
beats_more true q r p le h = le-leb p r (omega (arith, le, leb-true p q h))
beats_more false q r p le h = lt-ltb p r (omega (arith, le, ltb-true p q h))

left_does : (a b : Bool) → (b ≡ true → a ≡ true) → a ≡ (a || b)
left_does true b h = refl
left_does false true h = h refl
left_does false false h = refl

right_does : (a b : Bool) → (a ≡ true → b ≡ true) → b ≡ (a || b)
right_does true b h = h refl
right_does false b h = refl

beaten_more : (on : Bool) (p : ℕ) (peak : Option ℕ) (q : ℕ) → beaten_from on p (Some (peak_with peak q)) ≡ (beaten_from on p peak || beats on q p)
beaten_more on p None q = refl
beaten_more on p (Some r) q = by (nat_lt q r) (ltb-true q r) (ltb-false q r)
  where
    by : (b : Bool) → (b ≡ true → suc q ≤ r) → (b ≡ false → r ≤ q) → beats on (cond b r q) p ≡ (beats on r p || beats on q p)
    by true lt le = left_does (beats on r p) (beats on q p) (beats_more on q r p (omega (arith, lt refl)))
    by false lt le = right_does (beats on r p) (beats on q p) (beats_more on r q p (le refl))

-- the peaks of the events so far, and of one more
pub peaks_more : (e : Event) (on : Bool) (p : ℕ) (es : List Prioritised) (i : ℕ) (o : Prioritised) (old new : Option ℕ) → take (i + 1) es ≡ take i es ++ o ∷ []
    → new ≡ cond (same_event o.event e) (Some (peak_with old o.prio)) old
    → beaten_from on p old ≡ list_any (λ o. same_event o.event e && beats on o.prio p) (take i es)
    → beaten_from on p new ≡ list_any (λ o. same_event o.event e && beats on o.prio p) (take (i + 1) es)
peaks_more e on p es i o old new more is so_far =
    ap (beaten_from on p) is ∙ by (same_event o.event e)
    ∙ (λ j. so_far j || (same_event o.event e && beats on o.prio p))
    ∙ sym (any_more (λ o. same_event o.event e && beats on o.prio p) es i o more)
  where
    no_more : (a : Bool) → a ≡ (a || false)
    no_more true = refl
    no_more false = refl

    by : (b : Bool) → beaten_from on p (cond b (Some (peak_with old o.prio)) old) ≡ (beaten_from on p old || (b && beats on o.prio p))
    by true = beaten_more on p old o.prio
    by false = no_more (beaten_from on p old)

not_so : (b : Bool) → (b ≡ true → ⊥) → b ≡ false
not_so true f = absurd (f refl)
not_so false f = refl

-- the peak of an event after one event more
pub peak_more : (d e : Event) (p : ℕ) (old new : Fluent → Option Sides) → new e.fluent ≡ cond (fluent_eq d.fluent e.fluent) (Some (sides_with (old d.fluent) d.on p)) (old e.fluent)
    → (fluent_eq d.fluent e.fluent ≡ true → old d.fluent ≡ old e.fluent) → peak_in new e ≡ cond (same_event d e) (Some (peak_with (peak_in old e) p)) (peak_in old e)
peak_more d e p old new is same =
    ap (side e.on) is ∙ split (fluent_eq d.fluent e.fluent)
    (λ t.
    ap (λ b. side e.on (cond b (Some (sides_with (old d.fluent) d.on p)) (old e.fluent))) t
    ∙ ap (λ g. side e.on (Some (sides_with g d.on p))) (same t)
    ∙ by d.on e.on (λ q. same_event_of d e (λ i. record { on = q i; fluent = one_fluent d.fluent e.fluent t i })) (λ q. not_so _ (λ s. q (ap (λ z. z.on) (is_same_event d e s)))))
    (λ f.
    ap (λ b. side e.on (cond b (Some (sides_with (old d.fluent) d.on p)) (old e.fluent))) f
    ∙ sym (ap (λ b. cond b (Some (peak_with (peak_in old e) p)) (peak_in old e)) (not_so (same_event d e) (λ s. false≢true (sym f ∙ ap (fluent_eq d.fluent) (sym (ap (λ z. z.fluent) (is_same_event d e s))) ∙ laws-law.refl d.fluent)))))
  where
    g : Option Sides
    g = old e.fluent

    by : (a b : Bool) → (a ≡ b → same_event d e ≡ true) → ((a ≡ b → ⊥) → same_event d e ≡ false) → side b (Some (sides_with g a p)) ≡ cond (same_event d e) (Some (peak_with (side b g) p)) (side b g)
    by true true h k = sym (ap (λ c. cond c (Some (peak_with (side true g) p)) (side true g)) (h refl))
    by false false h k = sym (ap (λ c. cond c (Some (peak_with (side false g) p)) (side false g)) (h refl))
    by true false h k = sym (ap (λ c. cond c (Some (peak_with (side false g) p)) (side false g)) (k (λ q. false≢true (sym q))))
    by false true h k = sym (ap (λ c. cond c (Some (peak_with (side true g) p)) (side true g)) (k (λ q. false≢true q)))

beaten_lower : (on : Bool) (p r : ℕ) (against : Option ℕ) → p ≤ r → beaten_from on r against ≡ true → beaten_from on p against ≡ true
beaten_lower on p r None le h = cc
beaten_lower true p r (Some q) le h = le-leb p q (omega (arith, le, leb-true r q h))
beaten_lower false p r (Some q) le h = lt-ltb p q (omega (arith, le, ltb-true r q h))

-- what the peaks of a set tell of it
module _ (x : HappenedView) (peak : Event → Option ℕ) (are : ArePeaks (members x.events) peak) where
  pub blocked_by : (o : Prioritised) → beaten_from o.event.on o.prio (peak (converse o.event)) ≡ blocked x o
  blocked_by o = are (converse o.event) o.event.on o.prio

  -- the same for another event that is equal
  beaten_as : (o : Prioritised) (e : Event) → o.event ≡ e → blocked x o ≡ beaten_from e.on o.prio (peak (converse e))
  beaten_as o e same = sym (blocked_by o) ∙ ap (λ (d : Event). beaten_from d.on o.prio (peak (converse d))) same

  module _ (e : Event) where
    under_peak : (p : ℕ) → peak e ≡ Some p → (o : Prioritised) → Elem (members x.events) o → same_event o.event e ≡ true → o.prio ≤ p
    under_peak p is o m s =
        leb-true o.prio p (ap (beaten_from true o.prio) (sym is) ∙ are e true o.prio ∙ any_intro (λ d. same_event d.event e && beats true d.prio o.prio) (members x.events) o m (and_true _ _ s (le-leb o.prio o.prio (omega arith))))

    at_peak : (p : ℕ) → peak e ≡ Some p → (o : Prioritised) × Elem (members x.events) o × (same_event o.event e ≡ true) × (o.prio ≡ p)
    at_peak p is =
        let (o, m, h) = any_elim (λ d. same_event d.event e && beats true d.prio p) (members x.events) (sym (are e true p) ∙ ap (beaten_from true p) is ∙ le-leb p p (omega arith)) in
        let t = both_true (same_event o.event e) (beats true o.prio p) h in
        let low : o.prio ≤ p = under_peak p is o m t.0 in
        let high : p ≤ o.prio = leb-true p o.prio t.1 in
        (o, m, t.0, omega (arith, low, high))

    -- the event stands at its peak
    pub stands_there : (p : ℕ) → peak e ≡ Some p → has x.events (record { prio = p; event = e }) ≡ true
    stands_there p is =
        let (o, m, s, q) = at_peak p is in
        let same : o.event ≡ e = is_same_event o.event e s in
        let whole : o ≡ record { prio = p; event = e } = λ i. record { prio = q i; event = same i } in
        subst (λ d. has x.events d ≡ true) whole (of_elem x o m)

    -- an event is won where it is not blocked at its peak
    pub won_by : (here : Option ℕ) → peak e ≡ here → wins_from e.on here (peak (converse e)) ≡ won x e
    won_by None is = sym (not_so (won x e) none)
      where
        none : won x e ≡ true → ⊥
        none w =
            let (o, m, h) = any_elim (λ o. same_event o.event e && not (blocked x o)) (members x.events) w in
            let some = any_intro (λ d. same_event d.event e && beats true d.prio 0) (members x.events) o m (and_true _ _ (both_true _ _ h).0 (le-leb 0 o.prio (omega arith))) in
            false≢true (ap (beaten_from true 0) (sym is) ∙ are e true 0 ∙ some)
    won_by (Some p) is = both_ways (not beaten) (won x e) from to
      where
        beaten : Bool
        beaten = beaten_from e.on p (peak (converse e))

        to : won x e ≡ true → not beaten ≡ true
        to w =
            let (o, m, h) = any_elim (λ o. same_event o.event e && not (blocked x o)) (members x.events) w in
            let t : (same_event o.event e ≡ true) × (not (blocked x o) ≡ true) = both_true _ _ h in
            split beaten
            (λ b.
            let hit : blocked x o ≡ true = beaten_as o e (is_same_event o.event e t.0) ∙ beaten_lower e.on o.prio p (peak (converse e)) (under_peak p is o m t.0) b in
            absurd (false≢true (ap not (sym hit) ∙ t.1)))
            (λ b. ap not b)

        from : not beaten ≡ true → won x e ≡ true
        from n =
            let (o, m, s, q) = at_peak p is in
            any_intro (λ d. same_event d.event e && not (blocked x d)) (members x.events) o m
            (and_true _ _ s (ap not (beaten_as o e (is_same_event o.event e s) ∙ ap (λ k. beaten_from e.on k (peak (converse e))) q) ∙ n))
