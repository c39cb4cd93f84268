-- What the numbers under an event or a signal are.
use Rattle.std.specs.Prelude.{◌≡◌, ◌↔◌, ℕ, ◌<◌, List, Some}
use Rattle.gt_base.specs.declared.events.Event.{Event}
use Rattle.gt_base.specs.declared.events.Signal.{Signal}
use Rattle.gt_base.specs.Held.{TriggerView}
use Rattle.gtrbac_model.specs.Graph.{item_at}
use Rattle.trigger_rules.specs.Indexed.{with_event, with_signal}

-- the item stands at some place of the list
abbrev pub IsAmong : {A : Type 0} → List A → A → Type 0
IsAmong xs x = (place : ℕ) × (item_at xs place ≡ Some x)

-- the trigger of this number stands in the list, and its body has the event
pub record HasEvent (rules : List TriggerView) (e : Event) (n : ℕ) : Type 0 where
  pub rule : TriggerView
  pub is : item_at rules n ≡ Some rule
  pub has : IsAmong rule.events e

pub record HasSignal (rules : List TriggerView) (s : Signal) (n : ℕ) : Type 0 where
  pub rule : TriggerView
  pub is : item_at rules n ≡ Some rule
  pub has : IsAmong rule.signals s

abbrev pub EventsAreIndexed : Type 0
EventsAreIndexed = (rules : List TriggerView) (e : Event) (n : ℕ)
    → IsAmong (with_event rules e) n ↔ HasEvent rules e n

abbrev pub SignalsAreIndexed : Type 0
SignalsAreIndexed = (rules : List TriggerView) (s : Signal) (n : ℕ)
    → IsAmong (with_signal rules s) n ↔ HasSignal rules s n

-- a number at a later place is greater
abbrev pub Ascend : List ℕ → Type 0
Ascend ns = (i j m n : ℕ) → i < j → item_at ns i ≡ Some m → item_at ns j ≡ Some n → m < n

pub record IndexesAscend : Type 0 where
  pub events : (rules : List TriggerView) (e : Event) → Ascend (with_event rules e)
  pub signals : (rules : List TriggerView) (s : Signal) → Ascend (with_signal rules s)
