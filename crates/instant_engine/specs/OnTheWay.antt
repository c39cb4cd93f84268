-- A set on its way to the one that its base settles to, level by level.
use Rattle.std.specs.Prelude.{◌≡◌, ℕ, ◌+◌, ◌<◌, Bool, true, false, not, ◌&&◌, nat_eq, List, ◌++◌, flat_map, Option, Some, None, if◌then◌else◌}
use Rattle.gt_base.specs.declared.events.Event.{Event}
use Rattle.gt_base.specs.declared.events.Prioritised.{Prioritised}
use Rattle.gt_base.specs.Held.{TriggerView}
use Rattle.gt_base.specs.Happening.{HappenedView}
use Rattle.gt_base.specs.Sets.{has, members, with_member}
use Rattle.gtrbac_model.specs.Conflict.{Status}
use Rattle.gtrbac_model.specs.Trigger.{met, immediate}
use Rattle.gtrbac_model.specs.Instant.{Settled}
use Rattle.gtrbac_model.specs.Safety.{is_node}
use Rattle.trigger_rules.specs.Indexed.{with_event, with_signal}

-- it has the base and the signals of the base, nothing that a settled set has not, and all that one
-- has of the levels below n
pub record IsSettledBelow (rules : List TriggerView) (base : HappenedView) (s : Status)
    (level : Event → ℕ) (n : ℕ) (x : HappenedView) : Type 0 where
  pub has_base : (o : Prioritised) → has base.events o ≡ true → has x.events o ≡ true
  pub within : (y : HappenedView) → Settled rules base s y → (o : Prioritised)
      → has x.events o ≡ true → has y.events o ≡ true
  pub full : (y : HappenedView) → Settled rules base s y → (o : Prioritised)
      → is_node rules o.event ≡ true → level o.event < n → has y.events o ≡ true
      → has x.events o ≡ true
  pub signals : x.signals ≡ base.signals

-- from whichever base the one set comes, the other comes from it too
abbrev pub KeepsSet : List TriggerView → Status → (Event → ℕ) → ℕ → HappenedView → ℕ → HappenedView
    → Type 0
KeepsSet rules s level n x m y = (base : HappenedView) → IsSettledBelow rules base s level n x
    → IsSettledBelow rules base s level m y

-- the trigger is immediate, and its head is of this level
abbrev pub is_due : (Event → ℕ) → ℕ → TriggerView → Bool
is_due level n r = immediate r && nat_eq (level r.head.event) n

-- whether there is a level, and it is this one
abbrev pub is_level : Option ℕ → ℕ → Bool
is_level None n = false
is_level (Some l) n = nat_eq l n

-- the trigger is of this level, it is met, and its head is not there yet
abbrev pub fires : Status → (Event → ℕ) → ℕ → HappenedView → TriggerView → Bool
fires s level n x r = is_due level n r && met r x s && not (has x.events r.head)

-- the head of the trigger, if there is one and it fires
abbrev pub head_at : Status → (Event → ℕ) → ℕ → HappenedView → Option TriggerView
    → Option Prioritised
head_at s level n x None = None
head_at s level n x (Some r) = if fires s level n x r then Some r.head else None

-- the set with the head
abbrev pub head_joined : HappenedView → Option Prioritised → HappenedView
head_joined x None = x
head_joined x (Some h) = record { events = with_member x.events h; signals = x.signals }

-- with the triggers that have the head in their bodies
abbrev pub waiting_with : List TriggerView → List ℕ → Option Prioritised → List ℕ
waiting_with rules ts None = ts
waiting_with rules ts (Some h) = ts ++ with_event rules h.event

-- the triggers that have an event or a signal of the set in their bodies
abbrev pub prompted : List TriggerView → HappenedView → List ℕ
prompted rules x = flat_map (λ o. with_event rules o.event) (members x.events)
    ++ flat_map (with_signal rules) (members x.signals)
