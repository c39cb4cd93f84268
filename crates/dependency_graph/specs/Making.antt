-- A graph in the making.
use Rattle.std.specs.Prelude.{◌≡◌, ℕ, List, [], ◌∷◌, ◌++◌, Some, if◌then◌else◌}
use Rattle.gt_base.specs.declared.events.Event.{Event}
use Rattle.gt_base.specs.Held.{TriggerView}
use Rattle.gtrbac_model.specs.Graph.{item_at}
use Rattle.gtrbac_model.specs.Same.{lists, same_event}
use Rattle.gtrbac_model.specs.Safety.{Dependency, is_node}

-- each event stands at one place
abbrev pub AreApart : List Event → Type 0
AreApart events = (i j : ℕ) (e : Event) → item_at events i ≡ Some e → item_at events j ≡ Some e
    → i ≡ j

-- the events are just the heads of immediate triggers
abbrev pub AreNodes : List TriggerView → List Event → Type 0
AreNodes triggers events = (e : Event) → lists same_event events e ≡ is_node triggers e

-- the dependency where its source is among the events
abbrev pub edge_in : List Event → Dependency → List Dependency
edge_in events d = if lists same_event events d.source then d ∷ [] else []

-- where the events are the nodes of any triggers, the list has grown by what these triggers give
abbrev pub Adds : List Event → List Dependency → List Dependency
    → (List TriggerView → List Dependency) → Type 0
Adds events old new given = (triggers : List TriggerView) → AreNodes triggers events
    → new ≡ old ++ given triggers
