use Rattle.std.proofs.Common.{◌≡◌, ℕ, ◌+◌, ◌≤◌, Bool, true, false, ◌||◌, ◌&&◌, List, length, drop, Some, refl, sym, subst, ◌∙◌, ap, arith}
use Rattle.std.proofs.lemmas.Bool.{eq-eqb, ne_eqb}
use Rattle.indexmap.specs.IndexSet.{insert_key}
use Rattle.gt_base.specs.declared.events.Event.{Event}
use Rattle.gt_base.specs.Held.{TriggerView}
use Rattle.gtrbac_model.specs.Graph.{item_at}
use Rattle.gtrbac_model.specs.Same.{lists, same_event}
use Rattle.gtrbac_model.specs.Trigger.{immediate}
use Rattle.gtrbac_model.specs.Safety.{is_node}
use Rattle.least_walk.proofs.Items.{item_read}
use Rattle.dependency_graph.specs.Making.{AreApart}
use Rattle.dependency_graph.proofs.Finding.{event_eq, inserted, apart_inserted, one_longer, same_sym}
use Rattle.dependency_graph.proofs.Growing.{head_step}
use Rattle.dependency_graph.proofs.building.heads.Goals as goal
use Rattle.dependency_graph.proofs.building.heads.Goals.{then-trigger-eq0+in_ok-insert, else-trigger-eq0}

or_false : (b : Bool) → b ≡ (b || false)
or_false true = refl
or_false false = refl

-- a delayed trigger gives no head
kept : (triggers : List TriggerView) (t : ℕ) (r : TriggerView) (xs : List Event) (e : Event) (old : Bool) → item_at triggers t ≡ Some r → immediate r ≡ false
    → (lists same_event xs e || is_node (drop t triggers) e) ≡ old → (lists same_event xs e || is_node (drop (t + 1) triggers) e) ≡ old
kept triggers t r xs e old is late h =
    head_step triggers t r xs e old is h xs (or_false (lists same_event xs e) ∙ ap (λ b. lists same_event xs e || (b && same_event r.head.event e)) (sym late))

-- an immediate one gives its head
joined : (triggers : List TriggerView) (t : ℕ) (r : TriggerView) (h : Event) (xs ys : List Event) (e : Event) (old : Bool) → item_at triggers t ≡ Some r → immediate r ≡ true → h ≡ r.head.event → ys ≡ insert_key event_eq xs h
    → (lists same_event xs e || is_node (drop t triggers) e) ≡ old → (lists same_event ys e || is_node (drop (t + 1) triggers) e) ≡ old
joined triggers t r h xs ys e old is now q keys k =
    head_step triggers t r xs e old is k ys
    (ap (λ zs. lists same_event zs e) keys
    ∙ inserted xs h e
    ∙ ap (λ b. lists same_event xs e || b) (same_sym e h ∙ ap (λ z. same_event z e) q ∙ ap (λ b. b && same_event r.head.event e) (sym now)))

pub loop-trigger-preserved : goal.loop-trigger-preserved
loop-trigger-preserved c =
    let old = c.loop-trigger.invariant in
    let triggers = c.args.triggers.now in
    let t = c.loop-trigger.trigger-index in
    let r = c.trigger-item.result in
    let is : item_at triggers t ≡ Some r = item_read triggers t r c.loop-trigger-test.true ∙ ap Some (sym c.trigger-item.is) in
    elim c.if-trigger-eq0.branch [
      | then-trigger-eq0+in_ok-insert w ↦
          let head = c.trigger.inside.head.event in
          let keys : c.if-trigger-eq0.events.keys ≡ insert_key event_eq c.loop-trigger.events.keys head = ap (λ s. s.keys) w.events-is ∙ w.in_ok-insert.ensures.keys in
          let now : immediate r ≡ true = eq-eqb r.delay 0 (ap (λ q. q.delay) (sym c.trigger.view_is) ∙ w.if-trigger-eq0.true) in
          record {
            nodes = λ e. joined triggers t r head c.loop-trigger.events.keys c.if-trigger-eq0.events.keys e _ is now (ap (λ q. q.head.event) c.trigger.view_is) keys (old.nodes e);
            apart = subst AreApart (sym keys) (apart_inserted c.loop-trigger.events.keys head old.apart);
            few = at_most _ _ _ (ap length keys) (one_longer c.loop-trigger.events.keys head) old.few;
          }
      | else-trigger-eq0 w ↦
          let late : immediate r ≡ false = ne_eqb r.delay 0 (λ q. w.if-trigger-eq0.false (ap (λ z. z.delay) c.trigger.view_is ∙ q)) in
          let same : c.loop-trigger.events.keys ≡ c.if-trigger-eq0.events.keys = sym (ap (λ s. s.keys) w.events-is) in
          record {
            nodes = λ e. subst (λ ks. (lists same_event ks e || is_node (drop (t + 1) triggers) e) ≡ is_node triggers e) same (kept triggers t r c.loop-trigger.events.keys e _ is late (old.nodes e));
            apart = subst AreApart same old.apart;
            few = no_more _ _ (ap length same) old.few;
          }
    ]
  where
    at_most : (a b n : ℕ) → a ≡ b → b ≤ n + 1 → n ≤ c.loop-trigger.trigger-index → a ≤ c.loop-trigger.trigger-index + 1
    at_most a b n p q r = omega arith

    no_more : (a b : ℕ) → a ≡ b → a ≤ c.loop-trigger.trigger-index → b ≤ c.loop-trigger.trigger-index + 1
    no_more a b p q = omega arith
