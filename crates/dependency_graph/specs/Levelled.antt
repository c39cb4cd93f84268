-- The graph of triggers with levels of its nodes.
use Rattle.std.specs.Prelude.{◌≡◌, ℕ, List, length}
use Rattle.gt_base.specs.Held.{TriggerView}
use Rattle.gtrbac_model.specs.Safety.{IsLevelling}
use Rattle.dependency_graph.specs.Nets.{EventNet, IsGraphOf}
use Rattle.dependency_graph.specs.Carried.{level_in}

-- the graph of the triggers, and levels that show them safe
pub record IsLevelled (triggers : List TriggerView) (g : EventNet) (levels : List ℕ) : Type 0 where
  pub graph : IsGraphOf triggers g
  pub size : length levels ≡ length g.events
  pub levelling : IsLevelling triggers (level_in g.events levels)
