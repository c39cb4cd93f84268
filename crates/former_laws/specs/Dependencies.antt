-- The dependencies among the events that head immediate triggers, as they were: from body events
-- alone.
use Rattle.std.specs.Prelude.{◌≡◌, ◌↔◌, ℕ, ◌+◌, false, true, List, [], ◌∷◌, ◌++◌, Option, Some, IsTrue, if◌then◌else◌}
use Rattle.gt_base.specs.declared.events.Event.{Event}
use Rattle.gt_base.specs.Events.{converse}
use Rattle.gt_base.specs.Held.{TriggerView}
use Rattle.gtrbac_model.specs.Trigger.{immediate}
use Rattle.gtrbac_model.specs.Graph.{item_at, LeadsAlong}
use Rattle.gtrbac_model.specs.Safety.{Dependency, edge_if_node, dependencies, arcs_of, IsSafe, first_closing, the_cycle}
use Rattle.former_laws.specs.Bodies.{AreBare}

module _ (triggers : List TriggerView) where
  -- a body event, plain; then its converse, in conflict
  abbrev pub from_events : Event → ℕ → ℕ → List Event → List Dependency
  from_events head t place [] = []
  from_events head t place (b ∷ bs) =
      edge_if_node triggers (record {
        source = b;
        target = head;
        conflict = false;
        trigger = t;
        place = place;
      })
      ++ edge_if_node triggers (record {
        source = converse b;
        target = head;
        conflict = true;
        trigger = t;
        place = place;
      })
      ++ from_events head t (place + 1) bs

  -- a delayed trigger gives none
  abbrev pub from_triggers : ℕ → List TriggerView → List Dependency
  from_triggers t [] = []
  from_triggers t (r ∷ rs) = (if immediate r then from_events r.head.event t 0 r.events else [])
      ++ from_triggers (t + 1) rs

  -- by trigger, then by place, plain before conflict
  abbrev pub former_dependencies : List Dependency
  former_dependencies = from_triggers 0 triggers

  -- no closed walk has a conflict edge
  abbrev pub FormerIsSafe : Type 0
  FormerIsSafe =
      (n : ℕ) (d : Dependency) → item_at former_dependencies n ≡ Some d → IsTrue d.conflict
      → (walk : List ℕ) → LeadsAlong (arcs_of former_dependencies) d.target walk d.source → ⊥

  -- the least conflict edge that lies on a closed walk, and the least walk back
  abbrev pub former_cycle : Option (List ℕ)
  former_cycle = first_closing former_dependencies 0 former_dependencies

abbrev pub DependenciesAsBefore : Type 0
DependenciesAsBefore = (triggers : List TriggerView) → AreBare triggers
    → dependencies triggers ≡ former_dependencies triggers

abbrev pub SafeAsBefore : Type 0
SafeAsBefore = (triggers : List TriggerView) → AreBare triggers
    → IsSafe triggers ↔ FormerIsSafe triggers

abbrev pub CycleAsBefore : Type 0
CycleAsBefore = (triggers : List TriggerView) → AreBare triggers
    → the_cycle triggers ≡ former_cycle triggers
