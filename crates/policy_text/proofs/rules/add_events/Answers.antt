use Rattle.std.proofs.Common.{append-nil, refl, ap, sym}
use Rattle.gtrbac_model.specs.WholePolicy.{is_fluent}
use Rattle.policy_words.specs.declared.parts.Item.TheVariants.{Event}
use Rattle.policy_text.specs.Sections.{event_item}
use Rattle.policy_text.proofs.Runs.{mapped_further, passes_at, whole_map}
use Rattle.policy_text.proofs.rules.add_events.Goals as goal

pub loop-event-preserved : goal.loop-event-preserved
loop-event-preserved c =
    mapped_further (event_item c.args.p.now.names) c.args.events.now c.loop-event.event-index _ _ c.args.items.now.items c.loop-event.items.items _ c.loop-event-test.true
    (ap (λ x. Event x) c.named_event.ensures) c.loop-event.invariant c.in_ok-add_item.ensures

pub loop-event-init : goal.loop-event-init
loop-event-init c = sym (append-nil _)

pub named_event-requires : goal.named_event-requires
named_event-requires c = passes_at (λ e. is_fluent c.args.p.now.policy e.fluent) c.args.events.now c.args.events.now c.loop-event.event-index _ c.requires refl c.loop-event-test.true

pub returns : goal.returns
returns c = whole_map (event_item c.args.p.now.names) c.args.events.now c.loop-event.event-index c.args.items.now.items _ c.loop-event-test.false c.loop-event.invariant
