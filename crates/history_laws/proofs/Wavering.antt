-- The waverer has no settled set where its condition held before: its head is owed just where the condition still holds, and ends it.
use Rattle.std.proofs.Common.{◌≡◌, Bool, true, false, cond, not, ◌&&◌, ◌||◌, ◌⊎◌, inl, inr, List, [], ◌∷◌, refl, sym, ◌∙◌, ap, subst}
use Rattle.std.specs.List.{list_all}
use Rattle.gt_base.specs.declared.events.Event.{Event}
use Rattle.gt_base.specs.declared.events.Fluent.{Fluent}
use Rattle.gt_base.specs.declared.events.Fluent.TheVariants.{Enabled}
use Rattle.gt_base.specs.declared.events.Prioritised.{Prioritised}
use Rattle.gt_base.specs.Held.{TriggerView}
use Rattle.gt_base.specs.Happening.{HappenedView}
use Rattle.gt_base.specs.Sets.{members, has, none, checked, with_member}
use Rattle.gt_base.proofs.SetSteps.{prioritised_cmp_total}
use Rattle.gt_base.proofs.OrderLaws.{prioritised_cmp-IsAntisymmetric}
use Rattle.gtrbac_model.specs.Same.{same_event, same_prioritised}
use Rattle.gtrbac_model.specs.Conflict.{Status, blocked, won, after}
use Rattle.gtrbac_model.specs.Trigger.{met, immediate}
use Rattle.gtrbac_model.specs.Instant.{Settled, stands, supported, grounded_after}
use Rattle.gtrbac_model.proofs.Elements.{Elem, both_true, and_true, either_true, implied, split, any_elim, any_intro, all_elim, elem_of_set_of}
use Rattle.gtrbac_model.proofs.Meeting.{parts_met, met_by}
use Rattle.gtrbac_model.proofs.Uniqueness.{elem, of_elem, is_same_event, is_same_prioritised}
use Rattle.walk_laws.specs.Rivals.{enable, disable, at}
use Rattle.history_laws.proofs.Blocking.{blocker}
use Rattle.history_laws.proofs.Members.{clash}
use Rattle.history_laws.specs.Liar.{waverer, one_enabled, WavererHasCycle, WavererSettlesNever}

pub waverer_has_cycle : WavererHasCycle
waverer_has_cycle = refl

abbrev rule : TriggerView
rule = record { events = enable 0 ∷ []; signals = []; conds = []; settled = record { on = false; fluent = Enabled (record { 0 = 1 }) } ∷ []; head = at 50 (enable 1); delay = 0 }

abbrev b : Fluent
b = Enabled (record { 0 = 1 })

base_has : has one_enabled.events (at 50 (enable 0)) ≡ true
unfolding has none checked with_member
base_has = refl

middle : (p q r t : Bool) → (p && q && r && t) ≡ true → (q ≡ true) × (r ≡ true)
middle true true true t e = (refl, refl)
middle true true false t e = cc
middle true false r t e = cc
middle false q r t e = cc

off_of : (v : Bool) → (not v && true) ≡ true → v ≡ false
off_of true e = cc
off_of false e = refl

on_then : (w l v : Bool) → v ≡ false → cond w true (cond l false v) ≡ true → w ≡ true
on_then true l v p e = refl
on_then false true v p e = cc
on_then false false v p e = cc

module _ (s : Status) (x : HappenedView) (was_off : s b ≡ false) (is : Settled waverer one_enabled s x) where
  -- what stands in the set is the cause, or the head where the body is met
  abbrev Known : Prioritised → Type 0
  Known o = (o ≡ at 50 (enable 0)) ⊎ ((o ≡ at 50 (enable 1)) × (met rule x s ≡ true))

  known_first : (earlier : List Prioritised) (o : Prioritised) → supported waverer one_enabled s x earlier o ≡ true → Known o
  known_first earlier o h =
      elim (either_true (has one_enabled.events o) _ h) [
        | inl t ↦ elim (elem_of_set_of prioritised_cmp_total prioritised_cmp-IsAntisymmetric (at 50 (enable 0) ∷ []) o t) [ inl e ↦ inl e | inr none ↦ absurd none ]
        | inr a ↦ elim (either_true _ false a) [
          | inl f ↦
              let (same, is_met) = middle true (same_prioritised (at 50 (enable 1)) o) (met rule x s) (list_all (stands x earlier) (enable 0 ∷ [])) f in
              inr (sym (is_same_prioritised (at 50 (enable 1)) o same), is_met)
          | inr none ↦ cc
        ]
      ]

  known_along : (earlier order : List Prioritised) → grounded_after waverer one_enabled s x earlier order ≡ true → (o : Prioritised) → Elem order o → Known o
  known_along earlier [] g o m = elim m [ ]
  known_along earlier (e ∷ es) g o (inl q) = subst Known (sym q) (known_first earlier e (both_true _ _ g).0)
  known_along earlier (e ∷ es) g o (inr m) = known_along (e ∷ earlier) es (both_true _ _ g).1 o m

  known : (o : Prioritised) → has x.events o ≡ true → Known o
  known o h =
      known_along [] is.order is.grounding.grounds o
      (elem_of_set_of prioritised_cmp_total prioritised_cmp-IsAntisymmetric is.order o (subst (λ z. has z o ≡ true) is.grounding.lists h))

  -- nothing that stands turns anything off, so nothing is blocked
  free : (e : Event) → e.on ≡ true → (p : Prioritised) → p.event ≡ e → blocked x p ≡ false
  free e on p same =
      split (blocked x p)
      (λ h.
      let (o, blocks) = blocker x p h in
      let off : o.event.on ≡ false = ap (λ q. q.on) blocks.against ∙ ap (λ q. not q.on) same ∙ ap not on in
      elim (known o blocks.stands) [
        | inl is_cause ↦ let q : true ≡ false = ap (λ z. z.event.on) (sym is_cause) ∙ off in cc
        | inr is_head ↦ let q : true ≡ false = ap (λ z. z.event.on) (sym is_head.0) ∙ off in cc
      ])
      (λ n. n)

  wins : (n : Event) (p : Prioritised) → has x.events p ≡ true → p.event ≡ n → same_event p.event n ≡ true → n.on ≡ true → won x n ≡ true
  wins n p there is_n same on =
      any_intro (λ o. same_event o.event n && not (blocked x o)) (members x.events) p (elem x p there) (and_true (same_event p.event n) _ same (ap not (free n on p is_n)))

  cause_there : has x.events (at 50 (enable 0)) ≡ true
  cause_there = all_elim (has x.events) (members one_enabled.events) (at 50 (enable 0)) (both_true _ _ is.is_closed).0 (elem one_enabled (at 50 (enable 0)) base_has)

  -- where b is on after the set, the head won and its body was met, so b is off
  not_on : after x s b ≡ true → ⊥
  not_on on =
      let w : won x (enable 1) ≡ true = on_then (won x (enable 1)) (won x (disable 1)) (s b) was_off on in
      let (o, there, passes) = any_elim (λ o. same_event o.event (enable 1) && not (blocked x o)) (members x.events) w in
      let is_one : o.event ≡ enable 1 = is_same_event o.event (enable 1) (both_true _ _ passes).0 in
      elim (known o (of_elem x o there)) [
        | inl is_cause ↦ let q : same_event (enable 0) (enable 1) ≡ true = ap (λ e. same_event e (enable 1)) (ap (λ z. z.event) (sym is_cause)) ∙ (both_true _ _ passes).0 in cc
        | inr is_head ↦ clash (after x s b) on (off_of (after x s b) (parts_met rule x s is_head.1).settled)
      ]

  -- and where it is off, the body is met, so the head stands and b is on
  not_off : after x s b ≡ false → ⊥
  not_off off =
      let is_met : met rule x s ≡ true = met_by rule x s (record { events = and_true (won x (enable 0)) true (wins (enable 0) (at 50 (enable 0)) cause_there refl refl refl) refl; signals = refl; conds = refl; settled = and_true (not (after x s b)) true (ap not off) refl }) in
      let head_there : has x.events (at 50 (enable 1)) ≡ true =
      implied (met rule x s) (has x.events (at 50 (enable 1)))
      (all_elim (λ r. not (immediate r && met r x s) || has x.events r.head) waverer rule (both_true _ _ is.is_closed).1 (inl refl)) is_met in
      let w : won x (enable 1) ≡ true = wins (enable 1) (at 50 (enable 1)) head_there refl refl refl in
      clash (after x s b) (ap (λ v. cond v true (cond (won x (disable 1)) false (s b))) w) off

pub waverer_settles_never : WavererSettlesNever
waverer_settles_never s x was_off is = split (after x s b) (not_on s x was_off is) (not_off s x was_off is)
