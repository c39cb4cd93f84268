-- Where no fluent changes at a plan, the activations of a book stand at it as they do now.
use Rattle.std.proofs.Common.{◌≡◌, ℕ, ◌≤◌, Bool, true, false, cond, not, ◌&&◌, ◌||◌, List, [], ◌∷◌, Option, Some, is_none, refl, sym, ap, subst, ◌∙◌, arith}
use Rattle.std.specs.List.{list_all, list_any}
use Rattle.gt_base.specs.Happening.{HappenedView}
use Rattle.gt_base.specs.Sets.{has, members}
use Rattle.gt_base.specs.declared.events.Event.{Event}
use Rattle.gt_base.specs.declared.events.Fluent.{Fluent}
use Rattle.gt_base.specs.declared.events.Fluent.TheVariants.{Enabled}
use Rattle.gt_base.specs.declared.requests.Entry.{Entry}
use Rattle.gtrbac_model.specs.Base.{status, table_at}
use Rattle.gtrbac_model.specs.Conflict.{Status, after, blocked, won, turns_on, turns_off}
use Rattle.gtrbac_model.specs.Graph.{item_at}
use Rattle.gtrbac_model.specs.Hierarchy.{activation_walk}
use Rattle.gtrbac_model.specs.Policy.{Policy}
use Rattle.gtrbac_model.specs.Same.{same_event}
use Rattle.gtrbac_model.specs.Sessions.{Table}
use Rattle.gtrbac_model.proofs.Elements.{both_true}
use Rattle.gtrbac_model.proofs.Uniqueness.{is_same_event}
use Rattle.history_laws.specs.Activations.{IsInOrder}
use Rattle.history_laws.proofs.InOrder.{active_in_order}
use Rattle.instant_bases.specs.Timelines.{TimelineView}
use Rattle.session_table.specs.Plans.{AllStand}
use Rattle.session_table.proofs.Charging.{split}
use Rattle.time_engine.specs.Plans.{PlanView, IsPlan, IsTimeline}
use Rattle.time_engine.specs.Traces.{model_of}
use Rattle.core_machine.specs.Coherent.{Coherent}
use Rattle.core_machine.specs.Agreeing.{agrees}
use Rattle.core_machine.proofs.Growing.{not_none}

-- where all pass one test and some pass another, one passes both
all_any : {A : Type 0} (q p : A → Bool) (xs : List A) → list_all q xs ≡ true → list_any p xs ≡ true → (x : A) × (q x ≡ true) × (p x ≡ true)
all_any {A} q p [] h g = cc
all_any {A} q p (x ∷ xs) h g = by (q x) (p x) refl refl h g (all_any q p xs)
  where
    by : (a b : Bool) → q x ≡ a → p x ≡ b → (a && list_all q xs) ≡ true → (b || list_any p xs) ≡ true
        → (list_all q xs ≡ true → list_any p xs ≡ true → (y : A) × (q y ≡ true) × (p y ≡ true)) → (y : A) × (q y ≡ true) × (p y ≡ true)
    by true true own is h g rest = (x, own, is)
    by true false own is h g rest = rest h g
    by false b own is h g rest = cc

not_on : (b : Bool) → not b ≡ true → false ≡ b
not_on true e = cc
not_on false e = refl

-- a set whose events the status already agrees with leaves it
module _ (x : HappenedView) (before : Status) (alike : list_all (agrees before) (members x.events) ≡ true) where
  says : (e : Event) → won x e ≡ true → agrees before (record { prio = 0; event = e }) ≡ true
  says e w =
      let (o, own, h) = all_any (agrees before) (λ o. same_event o.event e && not (blocked x o)) (members x.events) alike w in
      subst (λ (d : Event). agrees before (record { prio = 0; event = d }) ≡ true) (is_same_event o.event e (both_true _ _ h).0) own

  pub left_as_it_was : (f : Fluent) → after x before f ≡ before f
  left_as_it_was f =
      split (won x (turns_on f)) (λ e. ap (λ b. cond b true (cond (won x (turns_off f)) false (before f))) e ∙ sym (says (turns_on f) e))
      (λ n. ap (λ b. cond b true (cond (won x (turns_off f)) false (before f))) n
      ∙ split (won x (turns_off f)) (λ e. ap (λ b. cond b false (before f)) e ∙ not_on (before f) (says (turns_off f) e)) (λ m. ap (λ b. cond b false (before f)) m))

pub still_stand : (p : Policy) (birth : ℕ) (h : List Entry) (v : TimelineView) (tb : Table) (charged : Option ℕ) → Coherent p birth h v tb charged → IsTimeline v
    → (plan : PlanView) → IsPlan p v plan → list_all (agrees (has v.status)) (members plan.set.events) ≡ true → AllStand p.edges (has plan.status) tb
still_stand p birth h v tb charged k line plan plans alike i a is =
    let now : Status = status p birth (model_of v.trace) v.now in
    let born : birth ≤ v.now = omega (arith, line.born, k.follows.born) in
    let o : IsInOrder p now (table_at p birth (model_of v.trace) h v.now) a =
    active_in_order p birth h (model_of v.trace) k.legal v.now born a (i, subst (λ as'. item_at as' i ≡ Some a) (ap (λ (t : Table). t.active) k.table) is) in
    let same : now ≡ has plan.status = (λ j f. sym (plans.status f ∙ left_as_it_was plan.set (has v.status) alike f ∙ k.follows.status f) j) in
    record {
      on = subst (λ (s : Status). s (Enabled a.role) ≡ true) same o.role_is_on;
      allowed = subst (λ (s : Status). is_none (activation_walk p.edges s a.user a.role) ≡ false) same (not_none _ o.may_activate);
    }
