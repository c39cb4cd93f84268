-- The numbers of the triggers that have an item in their bodies.
use Rattle.std.specs.Prelude.{ℕ, ◌+◌, Bool, false, nat_eq, List, [], ◌∷◌, ◌++◌, Option, Some, None, if◌then◌else◌}
use Rattle.gt_base.specs.declared.events.Event.{Event}
use Rattle.gt_base.specs.declared.events.Signal.{Signal}
use Rattle.gt_base.specs.Held.{TriggerView}
use Rattle.gt_base.specs.contracts.events.EventPartialEq.TheImpl as event_equality
use Rattle.gt_base.specs.contracts.events.SignalPartialEq.TheImpl as signal_equality
use Rattle.gtrbac_model.specs.Same.{lists, same_event, same_signal}

-- the numbers, ascending from n, of the triggers that pass
abbrev pub numbers : (TriggerView → Bool) → ℕ → List TriggerView → List ℕ
numbers p n [] = []
numbers p n (r ∷ rs) = if p r then n ∷ numbers p (n + 1) rs else numbers p (n + 1) rs

abbrev pub has_event : Event → TriggerView → Bool
has_event e r = lists same_event r.events e

abbrev pub has_signal : Signal → TriggerView → Bool
has_signal s r = lists same_signal r.signals s

-- the triggers with the event in their bodies
abbrev pub with_event : List TriggerView → Event → List ℕ
with_event rules e = numbers (has_event e) 0 rules

-- the triggers with the signal in their bodies
abbrev pub with_signal : List TriggerView → Signal → List ℕ
with_signal rules s = numbers (has_signal s) 0 rules

-- what `==` answers
abbrev pub event_eq : Event → Event → Bool
event_eq = event_equality.ghosts.eq

abbrev pub signal_eq : Signal → Signal → Bool
signal_eq = signal_equality.ghosts.eq

-- the numbers under a key, none where the key is absent
abbrev pub under : {V : Type 0} → Option V → (V → List ℕ) → List ℕ
under None items = []
under (Some v) items = items v

-- whether the list ends in the number
abbrev pub ends_in : ℕ → List ℕ → Bool
ends_in n [] = false
ends_in n (m ∷ []) = nat_eq m n
ends_in n (m ∷ k ∷ ks) = ends_in n (k ∷ ks)

-- with the number at its end
abbrev pub ended_by : ℕ → List ℕ → List ℕ
ended_by n ks = if ends_in n ks then ks else ks ++ n ∷ []
