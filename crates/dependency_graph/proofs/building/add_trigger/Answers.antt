use Rattle.std.proofs.Common.{◌≡◌, ℕ, ◌+◌, ◌*◌, ◌≤◌, Ok, Err, Result, Some, OnOk, length, ap, sym, ◌∙◌, arith}
use Rattle.std.proofs.lemmas.Bool.{eq-eqb, false≢true}
use Rattle.gtrbac_model.specs.Same.{lists, same_event}
use Rattle.least_walk.proofs.Items.{item_within}
use Rattle.dependency_graph.proofs.Growing.{trigger_of_parts, delayed_none}
use Rattle.dependency_graph.proofs.building.add_trigger.Goals as goal

on_ok : {T E P Q : Type 0} (r : Result T E) → (P → Q) → OnOk r P → OnOk r Q
on_ok (Ok x) f p = f p
on_ok (Err e) f p = p

-- room for two edges of each part
last_room : (a b x y e s : ℕ) → b ≤ a + 2 * x → x ≡ e → y ≡ s → e + s ≤ 16 → a + 32 ≤ 4_294_967_295 → b + 2 * y ≤ 4_294_967_295
last_room a b x y e s grown p q short room = omega arith

both_rooms : (a b c x y e s : ℕ) → b ≤ a + 2 * x → x ≡ e → y ≡ s → e + s ≤ 16 → c ≤ b + 2 * y → c ≤ a + 32
both_rooms a b c x y e s grown p q short last = omega arith

few_parts : (x y e s : ℕ) → x ≡ e → y ≡ s → e + s ≤ 16 → x + y ≤ 16
few_parts x y e s p q short = omega arith

pub returns-then-trigger-ne0-clause-edges : goal.returns-then-trigger-ne0-clause-edges
returns-then-trigger-ne0-clause-edges c =
    delayed_none c.args.events.now.keys c.args.t c.args.trigger.now _ (λ e. c.if-trigger-ne0.true (ap (λ r. r.delay) c.trigger.view_is ∙ e))

pub returns-in_default-clause-edges : goal.returns-in_default-clause-edges
returns-in_default-clause-edges c =
    let now : c.args.trigger.now.delay ≡ 0 = ap (λ r. r.delay) (sym c.trigger.view_is) ∙ c.if-trigger-ne0.false in
    absurd
    (false≢true
    (sym c.in_default.ensures ∙ ap (λ r. lists same_event c.args.events.now.keys r.head.event) c.trigger.view_is ∙ c.requires.head (eq-eqb c.args.trigger.now.delay 0 now)))

pub add_body-requires-clause-end : goal.add_body-requires-clause-end
add_body-requires-clause-end c = item_within c.args.events.now.keys c.in-Some.head _ c.in-Some.ensures

pub add_settled-requires-clause-short : goal.add_settled-requires-clause-short
add_settled-requires-clause-short c =
    few_parts c.len-first.result (length c.as_slice-2.result.now) (length c.args.trigger.now.events) (length c.args.trigger.now.settled) (c.len-first.ensures ∙ ap (λ r. length r.events) c.trigger.view_is)
    (ap length c.as_slice-2.ensures ∙ ap (λ r. length r.settled) c.trigger.view_is) c.requires.short

pub add_settled-requires-clause-room : goal.add_settled-requires-clause-room
add_settled-requires-clause-room c =
    last_room (length c.args.graph.now.edges) (length c.add_body.new.graph.edges) (length c.as_slice.result.now) (length c.as_slice-2.result.now) (length c.args.trigger.now.events) (length c.args.trigger.now.settled) c.in_ok-add_body.ensures.room
    (ap length c.as_slice.ensures ∙ ap (λ r. length r.events) c.trigger.view_is) (ap length c.as_slice-2.ensures ∙ ap (λ r. length r.settled) c.trigger.view_is) c.requires.short c.requires.room

pub returns-clause-room : goal.returns-clause-room
returns-clause-room c =
    on_ok c.add_settled.result
    (both_rooms (length c.args.graph.now.edges) (length c.add_body.new.graph.edges) _ (length c.as_slice.result.now) (length c.as_slice-2.result.now) (length c.args.trigger.now.events) (length c.args.trigger.now.settled) c.in_ok-add_body.ensures.room
    (ap length c.as_slice.ensures ∙ ap (λ r. length r.events) c.trigger.view_is) (ap length c.as_slice-2.ensures ∙ ap (λ r. length r.settled) c.trigger.view_is) c.requires.short)
    c.add_settled.ensures.room

pub returns-clause-edges : goal.returns-clause-edges
returns-clause-edges c =
    on_ok c.add_settled.result
    (trigger_of_parts c.args.events.now.keys c.in-Some.head c.args.t c.len-first.result c.args.trigger.now c.as_slice.result.now c.as_slice-2.result.now _ _ _
    (c.in-Some.ensures ∙ ap (λ r. Some r.head.event) c.trigger.view_is)
    (ap (λ r. r.delay) (sym c.trigger.view_is) ∙ c.if-trigger-ne0.false)
    (c.as_slice.ensures ∙ ap (λ r. r.events) c.trigger.view_is)
    (c.len-first.ensures ∙ ap (λ r. length r.events) c.trigger.view_is)
    (c.as_slice-2.ensures ∙ ap (λ r. r.settled) c.trigger.view_is)
    c.in_ok-add_body.ensures.edges)
    c.add_settled.ensures.edges
