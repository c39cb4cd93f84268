-- What a base settled to, and what delayed triggers raised, by bodies as they were.
use Rattle.std.specs.Prelude.{◌≡◌, ◌↔◌, ℕ, ◌-◌, Bool, true, ◌&&◌, ◌||◌, not, nat_lt, List, [], ◌∷◌, flat_map, IsTrue, if◌then◌else◌}
use Rattle.std.specs.List.{list_any, list_all}
use Rattle.gt_base.specs.declared.events.Prioritised.{Prioritised}
use Rattle.gt_base.specs.Held.{TriggerView}
use Rattle.gt_base.specs.Happening.{HappenedView}
use Rattle.gt_base.specs.Sets.{has, members, set_of}
use Rattle.gtrbac_model.specs.Same.{same_prioritised}
use Rattle.gtrbac_model.specs.Conflict.{Status}
use Rattle.gtrbac_model.specs.Trigger.{immediate}
use Rattle.gtrbac_model.specs.Instant.{stands, Settled}
use Rattle.gtrbac_model.specs.Policy.{Policy}
use Rattle.gtrbac_model.specs.Status.{Model}
use Rattle.gtrbac_model.specs.Base.{when, status, delayed}
use Rattle.former_laws.specs.Bodies.{former_met, AreBare}

-- the set has the base, and the head of each immediate trigger met in it
abbrev pub former_closed : List TriggerView → HappenedView → Status → HappenedView → Bool
former_closed rules base s x =
    list_all (has x.events) (members base.events)
    && list_all (λ r. not (immediate r && former_met r x s) || has x.events r.head) rules

-- the event is in the base, or the head of an immediate trigger met in the set whose body events
-- stand earlier
abbrev pub former_supported : List TriggerView → HappenedView → Status → HappenedView
    → List Prioritised → Prioritised → Bool
former_supported rules base s x earlier e =
    has base.events e || list_any (λ r. immediate r && same_prioritised r.head e && former_met r x s
    && list_all (stands x earlier) r.events) rules

-- each event of the list is supported by those before it
abbrev pub former_grounded : List TriggerView → HappenedView → Status → HappenedView
    → List Prioritised → List Prioritised → Bool
former_grounded rules base s x earlier [] = true
former_grounded rules base s x earlier (e ∷ es) = former_supported rules base s x earlier e
    && former_grounded rules base s x (e ∷ earlier) es

-- closed and grounded, with the signals of the base
pub record FormerSettled (rules : List TriggerView) (base : HappenedView) (s : Status)
    (x : HappenedView) : Type 0 where
  pub is_closed : IsTrue (former_closed rules base s x)
  pub order : List Prioritised
  pub lists : x.events ≡ set_of order
  pub grounds : IsTrue (former_grounded rules base s x [] order)
  pub signals : x.signals ≡ base.signals

-- the heads of the delayed triggers that were met in good time before t
abbrev pub former_delayed : Policy → ℕ → Model → ℕ → List Prioritised
former_delayed p birth m t =
    flat_map (λ r. if nat_lt 0 r.delay && nat_lt birth (t - r.delay)
    then when (former_met r (m (t - r.delay)) (status p birth m (t - r.delay - 1))) r.head
    else []) p.triggers

abbrev pub SettledAsBefore : Type 0
SettledAsBefore = (rules : List TriggerView) (base : HappenedView) (s : Status) (x : HappenedView)
    → AreBare rules → Settled rules base s x ↔ FormerSettled rules base s x

abbrev pub DelayedAsBefore : Type 0
DelayedAsBefore = (p : Policy) (birth : ℕ) (m : Model) (t : ℕ) → AreBare p.triggers
    → delayed p birth m t ≡ former_delayed p birth m t
