-- Prioritised events that have joined.
use Rattle.std.specs.Prelude.{ℕ, Bool, false, ◌||◌, nat_eq, Option, Some, None}
use Rattle.gt_base.specs.declared.events.Prioritised.{Prioritised}
use Rattle.gt_base.specs.declared.events.Event.{Event}
use Rattle.gt_base.specs.Orders.{prioritised_cmp}
use Rattle.gt_base.specs.Sets.{SetOf, has, with_member}
use Rattle.indexmap.specs.IndexMap.{get}
use Rattle.trigger_rules.specs.Indexed.{event_eq}
use Rattle.gtrbac_tool.specs.declared.joined.Joined.{Joined}

-- the last priority, if there is one, is this
abbrev pub is_last : Option ℕ → ℕ → Bool
is_last None p = false
is_last (Some q) p = nat_eq q p

-- the set with the event at the priority that it had before, if it had one
abbrev pub with_before : SetOf prioritised_cmp → Option ℕ → Event → SetOf prioritised_cmp
with_before s None e = s
with_before s (Some q) e = with_member s (record { prio = q; event = e })

-- the event joined at its priority
abbrev pub has_joined : Joined → Prioritised → Bool
has_joined j e = is_last (get event_eq j.last e.event) e.prio || has j.others.set.events e
