use Rattle.std.proofs.Common.{◌≡◌, ◌++◌, drop}
use Rattle.std.specs.List.{filter_map}
use Rattle.policy_words.specs.Making.{event_in as event_said}
use Rattle.policy_book.specs.Seen.{seen_names}
use Rattle.policy_book.proofs.rules.events_in.Given as goal

abbrev pub invariant-loop-item : goal.invariant-loop-item
invariant-loop-item l = l.events.items ++ filter_map (event_said (seen_names l.names)) (drop l.item-index l.items) ≡ filter_map (event_said (seen_names l.names)) l.items
