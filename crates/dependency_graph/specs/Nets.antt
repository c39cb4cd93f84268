-- What a graph over events is seen as, and that it is the dependency graph.
use Rattle.std.specs.Prelude.{◌≡◌, ℕ, ◌+◌, ◌≤◌, false, List, [], ◌∷◌, length, Some}
use Rattle.std.specs.List.{slice_index_or}
use Rattle.gt_base.specs.declared.events.Event.{Event}
use Rattle.gt_base.specs.declared.events.Fluent.TheVariants.{Enabled}
use Rattle.gt_base.specs.Held.{TriggerView}
use Rattle.gt_base.specs.declared.limits.TheConstants.{MAX_ITEMS, MAX_NUMBER, MAX_TRIGGERS}
use Rattle.least_walk.specs.declared.graphs.GraphEdge.{GraphEdge}
use Rattle.least_walk.specs.Net.{Net, IsNet}
use Rattle.gtrbac_model.specs.Graph.{item_at}
use Rattle.gtrbac_model.specs.Same.{lists, same_event}
use Rattle.gtrbac_model.specs.Safety.{Dependency, is_node, dependencies}

-- the event of each node, the numbered edges, and the trigger and the place of each edge
pub record EventNet : Type 0 where
  pub events : List Event
  pub net : Net
  pub places : List (ℕ × ℕ)

-- as many events as nodes, each at one node, and as many places as edges
pub record IsEventNet (g : EventNet) : Type 0 where
  pub nodes : g.net.nodes ≡ length g.events
  pub few : length g.events ≤ MAX_NUMBER
  pub places : length g.places ≡ length g.net.edges
  pub apart : (i j : ℕ) (e : Event) → item_at g.events i ≡ Some e → item_at g.events j ≡ Some e
      → i ≡ j

-- the event at a place, where there is one
abbrev pub event_at : List Event → ℕ → Event
event_at events n = slice_index_or events n
    (record { on = false; fluent = Enabled (record { 0 = 0 }) })

-- the dependency that a numbered edge stands for
abbrev pub dependency : List Event → GraphEdge → ℕ × ℕ → Dependency
dependency events e p =
    record {
      source = event_at events e.from;
      target = event_at events e.to;
      conflict = e.marked;
      trigger = p.0;
      place = p.1;
    }

abbrev pub read_off : List Event → List GraphEdge → List (ℕ × ℕ) → List Dependency
read_off events [] places = []
read_off events (e ∷ es) [] = []
read_off events (e ∷ es) (p ∷ ps) = dependency events e p ∷ read_off events es ps

-- the nodes are just the heads of immediate triggers, and the edges read off are the dependencies,
-- in their order
pub record IsGraphOf (triggers : List TriggerView) (g : EventNet) : Type 0 where
  pub is_event_net : IsEventNet g
  pub is_net : IsNet g.net
  pub nodes : (e : Event) → lists same_event g.events e ≡ is_node triggers e
  pub edges : read_off g.events g.net.edges g.places ≡ dependencies triggers

-- as many triggers as a policy may have, at most, and no more body events and settled conditions
-- in each than a body may have items
pub record IsWithinLimits (triggers : List TriggerView) : Type 0 where
  pub few : length triggers ≤ MAX_TRIGGERS
  pub short : (n : ℕ) (r : TriggerView) → item_at triggers n ≡ Some r
      → length r.events + length r.settled ≤ MAX_ITEMS
