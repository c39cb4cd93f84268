-- What a trigger is in numbers.
use Rattle.std.specs.Prelude.{ℕ, List}
use Rattle.std.specs.List.{filter_map}
use Rattle.gt_base.specs.Held.{TriggerView}
use Rattle.gt_base.specs.declared.events.Prioritised.{Prioritised}
use Rattle.policy_words.specs.declared.parts.Item.{Item}
use Rattle.policy_words.specs.Naming.{Names}
use Rattle.policy_words.specs.Making.{event_in, signal_in, cond_in, settled_in}

-- the trigger of a body, a head and a delay
abbrev pub trigger_with : Names → List Item → Prioritised → ℕ → TriggerView
trigger_with ns items head delay = record {
  events = filter_map (event_in ns) items;
  signals = filter_map (signal_in ns) items;
  conds = filter_map (cond_in ns) items;
  settled = filter_map (settled_in ns) items;
  head = head;
  delay = delay;
}
