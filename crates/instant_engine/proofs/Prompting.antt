-- A trigger that fires has an event or a signal of the set in its body, where it has one or the other at all.
use Rattle.std.proofs.Common.{◌≡◌, ℕ, true, not, nat_eq, ◌&&◌, ◌||◌, ◌⊎◌, inl, inr, List, [], ◌∷◌, flat_map, refl, ◌∙◌, subst, arith}
use Rattle.std.specs.List.{list_all}
use Rattle.std.proofs.lemmas.List.Folds.{list_any-append}
use Rattle.gt_base.specs.Held.{TriggerView}
use Rattle.gt_base.specs.Happening.{HappenedView}
use Rattle.gt_base.specs.Sets.{has, members}
use Rattle.gt_base.specs.declared.events.Event.{Event}
use Rattle.gt_base.specs.declared.events.Prioritised.{Prioritised}
use Rattle.gt_base.specs.declared.events.Signal.{Signal}
use Rattle.gt_base.proofs.OrderLaws.{signal_cmp-IsAntisymmetric}
use Rattle.gt_base.proofs.SetSteps.{signal_cmp_total}
use Rattle.gtrbac_model.specs.Conflict.{Status, blocked, won}
use Rattle.gtrbac_model.specs.History.{is_some_item}
use Rattle.gtrbac_model.specs.Same.{lists, same_event, same_signal}
use Rattle.gtrbac_model.specs.WholePolicy.{has_cause}
use Rattle.gtrbac_model.proofs.Elements.{Elem, both_true, left_true, right_true, any_elim, all_elim, elem_of_has, tied}
use Rattle.gtrbac_model.proofs.Meeting.{IsMet, parts_met}
use Rattle.trigger_rules.specs.Indexed.{has_event, has_signal, with_event, with_signal}
use Rattle.instant_engine.specs.OnTheWay.{prompted}
use Rattle.instant_engine.proofs.Steps.{Waits, elem_of, numbered}

-- what is listed by one item is listed by all of them
listed_by : {A : Type 0} (f : A → List ℕ) (xs : List A) (x : A) (u : ℕ) → Elem xs x → lists nat_eq (f x) u ≡ true → lists nat_eq (flat_map f xs) u ≡ true
listed_by f [] x u m h = elim m [ ]
listed_by f (y ∷ ys) x u (inl e) h = list_any-append (nat_eq u) (f y) (flat_map f ys) ∙ left_true (lists nat_eq (f y) u) _ (subst (λ z. lists nat_eq (f z) u ≡ true) e h)
listed_by f (y ∷ ys) x u (inr m) h = list_any-append (nat_eq u) (f y) (flat_map f ys) ∙ right_true (lists nat_eq (f y) u) _ (listed_by f ys x u m h)

module _ (x : HappenedView) where
  abbrev ByEvent : List Event → Type 0
  ByEvent es = (o : Prioritised) × Elem (members x.events) o × (lists same_event es o.event ≡ true)

  abbrev BySignal : List Signal → Type 0
  BySignal ss = (t : Signal) × Elem (members x.signals) t × (lists same_signal ss t ≡ true)

  prompt : (es : List Event) (ss : List Signal) → (is_some_item es || is_some_item ss) ≡ true → list_all (won x) es ≡ true → list_all (has x.signals) ss ≡ true → ByEvent es ⊎ BySignal ss
  prompt (e ∷ es) ss some wins there =
      let (o, m, k) = any_elim (λ o. same_event o.event e && not (blocked x o)) (members x.events) (both_true (won x e) _ wins).0 in
      inl (o, m, left_true (same_event o.event e) _ (both_true (same_event o.event e) _ k).0)
  prompt [] (t ∷ ts) some wins there =
      inr (t, elem_of_has signal_cmp_total signal_cmp-IsAntisymmetric x.signals t (both_true (has x.signals t) _ there).0, left_true (same_signal t t) _ (tied signal_cmp_total signal_cmp-IsAntisymmetric t t refl))
  prompt [] [] some wins there = cc

module _ (rules : List TriggerView) (s : Status) (level : Event → ℕ) (n : ℕ) (x : HappenedView) where
  pub prompted_wait : list_all has_cause rules ≡ true → Waits rules s level n x (prompted rules x)
  prompted_wait caused u w at f =
      let is : IsMet w x s = parts_met w x s (both_true _ _ (both_true _ _ f).0).1 in
      list_any-append (nat_eq u) (flat_map (λ o. with_event rules o.event) (members x.events)) (flat_map (with_signal rules) (members x.signals))
      ∙ elim (prompt x w.events w.signals (all_elim has_cause rules w caused (elem_of rules u w at)) is.events is.signals) [
        | inl by ↦
            left_true (lists nat_eq (flat_map (λ o. with_event rules o.event) (members x.events)) u) _
            (listed_by (λ (o : Prioritised). with_event rules o.event) (members x.events) by.0 u by.1 (numbered (has_event by.0.event) 0 rules u u w (omega arith) at by.2))
        | inr by ↦
            right_true (lists nat_eq (flat_map (λ o. with_event rules o.event) (members x.events)) u) _
            (listed_by (with_signal rules) (members x.signals) by.0 u by.1 (numbered (has_signal by.0) 0 rules u u w (omega arith) at by.2))
      ]
