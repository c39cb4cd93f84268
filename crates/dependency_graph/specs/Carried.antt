-- From the numbered graph to the triggers.
use Rattle.std.specs.Prelude.{◌≡◌, ℕ, suc, List, [], ◌∷◌, slice_index, Some, if◌then◌else◌}
use Rattle.gt_base.specs.declared.events.Event.{Event}
use Rattle.gt_base.specs.Held.{TriggerView}
use Rattle.gtrbac_model.specs.Same.{same_event}
use Rattle.gtrbac_model.specs.Safety.{IsLevelling, the_cycle}
use Rattle.least_walk.specs.Net.{arcs_of, is_marked}
use Rattle.gtrbac_model.specs.Cycles.{IsLeastCycle, AreLevels}
use Rattle.dependency_graph.specs.Nets.{EventNet, IsGraphOf}

-- the place of an event among events, or their number
abbrev pub event_place : List Event → Event → ℕ
event_place [] e = 0
event_place (x ∷ xs) e = if same_event e x then 0 else suc (event_place xs e)

-- the level of an event, by that of its node
abbrev pub level_in : List Event → List ℕ → Event → ℕ
level_in events levels e = slice_index levels (event_place events e)

-- the least cycle of the numbered graph is the one that the definition computes of the triggers
abbrev pub CyclesCarryOver : Type 0
CyclesCarryOver =
    (triggers : List TriggerView) (g : EventNet) → IsGraphOf triggers g → (edges : List ℕ)
    → IsLeastCycle (arcs_of g.net.edges) (is_marked g.net.edges) edges
    → the_cycle triggers ≡ Some edges

-- levels of the nodes are levels of the events
abbrev pub LevelsCarryOver : Type 0
LevelsCarryOver =
    (triggers : List TriggerView) (g : EventNet) → IsGraphOf triggers g → (levels : List ℕ)
    → AreLevels (arcs_of g.net.edges) (is_marked g.net.edges) (slice_index levels)
    → IsLevelling triggers (level_in g.events levels)
