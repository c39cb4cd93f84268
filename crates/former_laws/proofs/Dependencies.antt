-- Triggers without settled conditions depend as they did.
use Rattle.std.proofs.Common.{◌≡◌, ℕ, ◌+◌, false, true, cond, List, [], ◌∷◌, ◌++◌, length, append-nil, refl, ◌∙◌, ap, arith}
use Rattle.gt_base.specs.Held.{TriggerView}
use Rattle.gt_base.specs.declared.events.Event.{Event}
use Rattle.gt_base.specs.Events.{converse}
use Rattle.gtrbac_model.specs.Trigger.{immediate}
use Rattle.gtrbac_model.specs.Safety.{edge_if_node, of_body, of_settled, of_triggers, dependencies}
use Rattle.former_laws.specs.Bodies.{AreBare}
use Rattle.former_laws.specs.Dependencies.{from_events, from_triggers, former_dependencies}
use Rattle.former_laws.proofs.Alike.{of_rest}

events_as_before : (triggers : List TriggerView) (head : Event) (t p : ℕ) (bs : List Event) → of_body triggers head t p bs ≡ from_events triggers head t p bs
events_as_before triggers head t p [] = refl
events_as_before triggers head t p (b ∷ bs) =
    ap (λ ds. edge_if_node triggers (record { source = b; target = head; conflict = false; trigger = t; place = p })
    ++ edge_if_node triggers (record { source = converse b; target = head; conflict = true; trigger = t; place = p }) ++ ds)
    (events_as_before triggers head t (p + 1) bs)

trigger_as_before : (triggers : List TriggerView) (t : ℕ) (r : TriggerView) → r.settled ≡ []
    → (of_body triggers r.head.event t 0 r.events ++ of_settled triggers r.head.event t (length r.events) r.settled) ≡ from_events triggers r.head.event t 0 r.events
trigger_as_before triggers t r none =
    let bodies = of_body triggers r.head.event t 0 r.events in
    ap (λ cs. bodies ++ of_settled triggers r.head.event t (length r.events) cs) none ∙ append-nil bodies
    ∙ events_as_before triggers r.head.event t 0 r.events

triggers_as_before : (triggers : List TriggerView) (t : ℕ) (rs : List TriggerView) → AreBare rs → of_triggers triggers t rs ≡ from_triggers triggers t rs
triggers_as_before triggers t [] bare = refl
triggers_as_before triggers t (r ∷ rs) bare =
    ap (λ ds. cond (immediate r) ds [] ++ of_triggers triggers (t + 1) rs) (trigger_as_before triggers t r (bare 0 r (omega arith)))
    ∙ ap (λ ds. cond (immediate r) (from_events triggers r.head.event t 0 r.events) [] ++ ds) (triggers_as_before triggers (t + 1) rs (of_rest (λ r. r.settled ≡ []) r rs bare))

pub all_as_before : (triggers : List TriggerView) → AreBare triggers → dependencies triggers ≡ former_dependencies triggers
all_as_before triggers bare = triggers_as_before triggers 0 triggers bare
