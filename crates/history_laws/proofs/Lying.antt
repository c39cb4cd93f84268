-- The liar has no settled set: its head would be supported only where it is not met.
use Rattle.std.proofs.Common.{◌≡◌, Bool, true, false, not, ◌&&◌, ◌||◌, ◌⊎◌, inl, inr, List, [], ◌∷◌, refl, sym, ◌∙◌, ap, subst}
use Rattle.std.specs.List.{list_all}
use Rattle.gt_base.specs.Happening.{HappenedView}
use Rattle.gt_base.specs.Sets.{members, has, none, checked, with_member}
use Rattle.gt_base.specs.declared.events.Prioritised.{Prioritised}
use Rattle.gt_base.proofs.SetSteps.{prioritised_cmp_total}
use Rattle.gt_base.proofs.OrderLaws.{prioritised_cmp-IsAntisymmetric}
use Rattle.gtrbac_model.specs.Same.{same_event, same_prioritised}
use Rattle.gtrbac_model.specs.Conflict.{Status, blocked, won}
use Rattle.gtrbac_model.specs.Trigger.{met, immediate}
use Rattle.gtrbac_model.specs.Instant.{Settled, stands, supported, grounded_after}
use Rattle.gtrbac_model.proofs.Elements.{Elem, both_true, and_true, either_true, implied, split, any_elim, any_intro, all_elim, elem_of_set_of}
use Rattle.gtrbac_model.proofs.Uniqueness.{elem, of_elem, is_same_event, is_same_prioritised}
use Rattle.walk_laws.specs.Rivals.{enable, disable, at, when}
use Rattle.history_laws.proofs.Blocking.{blocker, blocked_by}
use Rattle.history_laws.proofs.Members.{clash, not_true}
use Rattle.history_laws.specs.Liar.{liar, one_disabled, LiarHasCycle, LiarSettlesNever}

pub liar_has_cycle : LiarHasCycle
liar_has_cycle = refl

middle : (a b c d : Bool) → (a && b && c && d) ≡ true → (b ≡ true) × (c ≡ true)
middle true true true d e = (refl, refl)
middle true true false d e = cc
middle true false c d e = cc
middle false b c d e = cc

first_of : (a b c d : Bool) → (a && b && c && d) ≡ true → a ≡ true
first_of true b c d e = refl
first_of false b c d e = cc

base_has : has one_disabled.events (at 50 (disable 0)) ≡ true
unfolding has none checked with_member
base_has = refl

module _ (s : Status) (x : HappenedView) (is : Settled liar one_disabled s x) where
  -- what stands in the set is the cause, or the effect of a win of the cause
  abbrev Known : Prioritised → Type 0
  Known o = (o ≡ at 50 (disable 0)) ⊎ ((o ≡ at 60 (enable 0)) × (won x (disable 0) ≡ true))

  in_base : (o : Prioritised) → has one_disabled.events o ≡ true → o ≡ at 50 (disable 0)
  in_base o h = elim (elem_of_set_of prioritised_cmp_total prioritised_cmp-IsAntisymmetric (at 50 (disable 0) ∷ []) o h) [ inl e ↦ e | inr none ↦ absurd none ]

  fired : (earlier : List Prioritised) (o : Prioritised)
      → (immediate (when (disable 0) (at 60 (enable 0))) && same_prioritised (at 60 (enable 0)) o && met (when (disable 0) (at 60 (enable 0))) x s && list_all (stands x earlier) (disable 0 ∷ [])) ≡ true
      → Known o
  fired earlier o h =
      let (same, is_met) = middle true (same_prioritised (at 60 (enable 0)) o) (met (when (disable 0) (at 60 (enable 0))) x s) (list_all (stands x earlier) (disable 0 ∷ [])) h in
      inr (sym (is_same_prioritised (at 60 (enable 0)) o same), (both_true (won x (disable 0)) true (first_of (list_all (won x) (disable 0 ∷ [])) true true true is_met)).0)

  known_first : (earlier : List Prioritised) (o : Prioritised) → supported liar one_disabled s x earlier o ≡ true → Known o
  known_first earlier o h =
      elim (either_true (has one_disabled.events o) _ h) [
        | inl b ↦ inl (in_base o b)
        | inr a ↦ elim (either_true _ false a) [ inl f ↦ fired earlier o f | inr none ↦ cc ]
      ]

  known_along : (earlier order : List Prioritised) → grounded_after liar one_disabled s x earlier order ≡ true → (o : Prioritised) → Elem order o → Known o
  known_along earlier [] g o m = elim m [ ]
  known_along earlier (e ∷ es) g o (inl q) = subst Known (sym q) (known_first earlier e (both_true _ _ g).0)
  known_along earlier (e ∷ es) g o (inr m) = known_along (e ∷ earlier) es (both_true _ _ g).1 o m

  known : (o : Prioritised) → has x.events o ≡ true → Known o
  known o h =
      known_along [] is.order is.grounding.grounds o
      (elem_of_set_of prioritised_cmp_total prioritised_cmp-IsAntisymmetric is.order o (subst (λ z. has z o ≡ true) is.grounding.lists h))

  cause_there : has x.events (at 50 (disable 0)) ≡ true
  cause_there = all_elim (has x.events) (members one_disabled.events) (at 50 (disable 0)) (both_true _ _ is.is_closed).0 (elem one_disabled (at 50 (disable 0)) base_has)

  is_met : won x (disable 0) ≡ true → met (when (disable 0) (at 60 (enable 0))) x s ≡ true
  is_met w = ap (λ b. b && true && true && true && true) w

  effect_there : won x (disable 0) ≡ true → has x.events (at 60 (enable 0)) ≡ true
  effect_there w =
      implied (met (when (disable 0) (at 60 (enable 0))) x s) (has x.events (at 60 (enable 0)))
      (all_elim (λ r. not (immediate r && met r x s) || has x.events r.head) liar (when (disable 0) (at 60 (enable 0))) (both_true _ _ is.is_closed).1 (inl refl)) (is_met w)

  -- where the cause has won, the effect is there and blocks it
  wins_not : won x (disable 0) ≡ true → ⊥
  wins_not w =
      let (o, there, passes) = any_elim (λ o. same_event o.event (disable 0) && not (blocked x o)) (members x.events) w in
      let both = both_true (same_event o.event (disable 0)) (not (blocked x o)) passes in
      elim (known o (of_elem x o there)) [
        | inl is_cause ↦
            clash (blocked x (at 50 (disable 0))) (blocked_by x (at 50 (disable 0)) (at 60 (enable 0), record { stands = effect_there w; against = refl; stronger = refl }))
            (not_true (blocked x (at 50 (disable 0))) (subst (λ z. not (blocked x z) ≡ true) is_cause both.1))
        | inr is_effect ↦ let q : true ≡ false = ap (λ e. e.on) (sym (ap (λ z. z.event) is_effect.0) ∙ is_same_event o.event (disable 0) both.0) in cc
      ]

  -- and where it has not won, nothing is there that blocks it
  wins : won x (disable 0) ≡ true
  wins =
      split (blocked x (at 50 (disable 0)))
      (λ b.
      let (o, blocks) = blocker x (at 50 (disable 0)) b in
      elim (known o blocks.stands) [
        | inl is_cause ↦ let q : false ≡ true = ap (λ e. e.on) (ap (λ z. z.event) (sym is_cause) ∙ blocks.against) in cc
        | inr is_effect ↦ is_effect.1
      ])
      (λ n. any_intro (λ o. same_event o.event (disable 0) && not (blocked x o)) (members x.events) (at 50 (disable 0)) (elem x (at 50 (disable 0)) cause_there)
      (and_true (same_event (disable 0) (disable 0)) _ refl (ap not n)))

pub liar_settles_never : LiarSettlesNever
liar_settles_never s x is = wins_not s x is (wins s x is)
