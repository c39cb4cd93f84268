-- The dependencies in words: which there are.
use Rattle.std.specs.Prelude.{◌≡◌, ◌↔◌, ◌⊎◌, ℕ, ◌+◌, true, false, List, length, Some}
use Rattle.gt_base.specs.declared.events.Cond.{Cond}
use Rattle.gt_base.specs.declared.events.Event.{Event}
use Rattle.gt_base.specs.Events.{converse}
use Rattle.gt_base.specs.Held.{TriggerView}
use Rattle.gtrbac_model.specs.Conflict.{turns_on, turns_off}
use Rattle.gtrbac_model.specs.Graph.{item_at}
use Rattle.gtrbac_model.specs.Safety.{Dependency, is_node, dependencies}
use Rattle.gtrbac_model.specs.Trigger.{immediate}

-- plain from a body event, or in conflict from its converse
pub record IsFromBody (r : TriggerView) (d : Dependency) : Type 0 where
  pub event : Event
  pub stands : item_at r.events d.place ≡ Some event
  pub source : ((d.conflict ≡ false) × (d.source ≡ event))
      ⊎ ((d.conflict ≡ true) × (d.source ≡ converse event))

-- in conflict from either event of a settled condition's fluent; settled conditions have the places
-- after the body events
pub record IsFromSettled (r : TriggerView) (d : Dependency) : Type 0 where
  pub cond : Cond
  pub number : ℕ
  pub stands : item_at r.settled number ≡ Some cond
  pub place : d.place ≡ length r.events + number
  pub conflict : d.conflict ≡ true
  pub source : (d.source ≡ turns_on cond.fluent) ⊎ (d.source ≡ turns_off cond.fluent)

-- it leads to the head of the immediate trigger of its number, from a node
pub record IsDependency (triggers : List TriggerView) (d : Dependency) : Type 0 where
  pub rule : TriggerView
  pub stands : item_at triggers d.trigger ≡ Some rule
  pub immediate : immediate rule ≡ true
  pub target : d.target ≡ rule.head.event
  pub from_node : is_node triggers d.source ≡ true
  pub cause : IsFromBody rule d ⊎ IsFromSettled rule d

-- just these are there
abbrev pub DependenciesTell : Type 0
DependenciesTell = (triggers : List TriggerView) (d : Dependency)
    → ((n : ℕ) × (item_at (dependencies triggers) n ≡ Some d)) ↔ IsDependency triggers d
