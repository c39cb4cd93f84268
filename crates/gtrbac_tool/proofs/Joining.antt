-- One more event among those that have joined.
use Rattle.std.proofs.Common.{◌≡◌, ℕ, Bool, true, false, cond, ◌||◌, nat_eq, Option, Some, None, sym, ◌∙◌, ap}
use Rattle.std.specs.Cmp.{both_ways}
use Rattle.std.proofs.lemmas.Bool.{false≢true, eqb-true, eq-eqb}
use Rattle.gt_base.specs.declared.events.Event.{Event}
use Rattle.gt_base.specs.declared.events.Prioritised.{Prioritised}
use Rattle.gt_base.specs.Orders.{prioritised_cmp}
use Rattle.gt_base.specs.Sets.{SetOf, has, with_member}
use Rattle.gt_base.specs.contracts.events.EventEq.TheImpl.Laws.{laws-law}
use Rattle.gt_base.proofs.OrderLaws.{prioritised_cmp-IsAntisymmetric}
use Rattle.gt_base.proofs.SetLaws.{has-with_member}
use Rattle.gt_base.proofs.SetSteps.{prioritised_cmp_total}
use Rattle.gtrbac_model.specs.Same.{same_prioritised}
use Rattle.gtrbac_model.proofs.Elements.{split, tied}
use Rattle.gtrbac_model.proofs.Uniqueness.{is_same_event, is_same_prioritised}
use Rattle.indexmap.specs.IndexMap.{IndexMap, get, get_by}
use Rattle.trigger_rules.specs.Indexed.{event_eq}
use Rattle.trigger_rules.proofs.Keys.{event_law}
use Rattle.gtrbac_tool.specs.Joined.{is_last, with_before}

same_key : {S : Type 0} (m : IndexMap Event ℕ S) (k q : Event) → event_eq k q ≡ true → get event_eq m k ≡ get event_eq m q
same_key m k q h = ap (λ t. get_by t m) (λ i z. laws-law.congr k q z h i)

-- of one event the same priority is the same
by_priority : (q : ℕ) (e : Event) (o : Prioritised) → o.event ≡ e → nat_eq q o.prio ≡ same_prioritised o (record { prio = q; event = e })
by_priority q e o is =
    both_ways (nat_eq q o.prio) (same_prioritised o (record { prio = q; event = e }))
    (λ t. tied prioritised_cmp_total prioritised_cmp-IsAntisymmetric o (record { prio = q; event = e }) (λ i. record { prio = sym (eqb-true q o.prio t) i; event = is i }))
    (λ s. eq-eqb q o.prio (sym (ap (λ (z : Prioritised). z.prio) (is_same_prioritised o (record { prio = q; event = e }) s))))

-- another event is not the same at any priority
apart : (q : ℕ) (e : Event) (o : Prioritised) → event_eq e o.event ≡ false → same_prioritised o (record { prio = q; event = e }) ≡ false
apart q e o f =
    split (same_prioritised o (record { prio = q; event = e }))
    (λ s. absurd (false≢true (sym f ∙ ap (event_eq e) (ap (λ (z : Prioritised). z.event) (is_same_prioritised o (record { prio = q; event = e }) s)) ∙ laws-law.refl e)))
    (λ s. s)

module _ {S : Type 0} (old new : IndexMap Event ℕ S) (e o : Prioritised) (more : get event_eq new o.event ≡ cond (event_eq e.event o.event) (Some e.prio) (get event_eq old o.event)) where
  here : event_eq e.event o.event ≡ true → o.event ≡ e.event
  here t = sym (is_same_event e.event o.event (sym (event_law e.event o.event) ∙ t))

  last_now : event_eq e.event o.event ≡ true → is_last (get event_eq new o.event) o.prio ≡ same_prioritised o e
  last_now t = ap (λ (p : Option ℕ). is_last p o.prio) (more ∙ ap (λ b. cond b (Some e.prio) (get event_eq old o.event)) t) ∙ by_priority e.prio e.event o (here t)

  last_as : event_eq e.event o.event ≡ false → is_last (get event_eq new o.event) o.prio ≡ is_last (get event_eq old o.event) o.prio
  last_as f = ap (λ (p : Option ℕ). is_last p o.prio) (more ∙ ap (λ b. cond b (Some e.prio) (get event_eq old o.event)) f)

  -- the event had not joined
  first_joins : (b : Bool) → get event_eq old e.event ≡ None → (is_last (get event_eq new o.event) o.prio || b) ≡ (same_prioritised o e || (is_last (get event_eq old o.event) o.prio || b))
  first_joins b none =
      split (event_eq e.event o.event)
      (λ t.
      ap (λ a. a || b) (last_now t)
      ∙ ap (λ a. same_prioritised o e || (a || b)) (sym (ap (λ (p : Option ℕ). is_last p o.prio) (sym (same_key old e.event o.event t) ∙ none))))
      (λ f. ap (λ a. a || b) (last_as f) ∙ ap (λ a. a || (is_last (get event_eq old o.event) o.prio || b)) (sym (apart e.prio e.event o f)))

  -- it had joined at another priority, or at this
  again_joins : (q : ℕ) (s t : SetOf prioritised_cmp) → get event_eq old e.event ≡ Some q → t ≡ with_member s (record { prio = q; event = e.event })
      → (is_last (get event_eq new o.event) o.prio || has t o) ≡ (same_prioritised o e || (is_last (get event_eq old o.event) o.prio || has s o))
  again_joins q s t was is =
      ap (λ b. is_last (get event_eq new o.event) o.prio || b) (ap (λ z. has z o) is ∙ has-with_member prioritised_cmp_total s (record { prio = q; event = e.event }) o)
      ∙ split (event_eq e.event o.event)
      (λ t.
      ap (λ a. a || (same_prioritised o (record { prio = q; event = e.event }) || has s o)) (last_now t)
      ∙ ap (λ a. same_prioritised o e || (a || has s o))
      (sym (by_priority q e.event o (here t)) ∙ ap (λ (p : Option ℕ). is_last p o.prio) (sym was ∙ same_key old e.event o.event t)))
      (λ f.
      (λ i. last_as f i || (apart q e.event o f i || has s o))
      ∙ ap (λ a. a || (is_last (get event_eq old o.event) o.prio || has s o)) (sym (apart e.prio e.event o f)))

  pub joins_with : (before : Option ℕ) (s t : SetOf prioritised_cmp) → before ≡ get event_eq old e.event → t ≡ with_before s before e.event
      → (is_last (get event_eq new o.event) o.prio || has t o) ≡ (same_prioritised o e || (is_last (get event_eq old o.event) o.prio || has s o))
  joins_with None s t was is = ap (λ z. is_last (get event_eq new o.event) o.prio || has z o) is ∙ first_joins (has s o) (sym was)
  joins_with (Some q) s t was is = again_joins q s t (sym was) is
