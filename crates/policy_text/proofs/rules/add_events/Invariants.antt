use Rattle.std.proofs.Common.{◌≡◌, ◌++◌, take, map}
use Rattle.policy_text.specs.Sections.{event_item}
use Rattle.policy_text.proofs.rules.add_events.Given as goal

abbrev pub invariant-loop-event : goal.invariant-loop-event
invariant-loop-event l = l.items.items ≡ l.fn.items.items ++ map (event_item l.p.names) (take l.event-index l.events)
