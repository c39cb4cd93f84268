-- The triggers of each level.
use Rattle.std.specs.Prelude.{◌≡◌, ℕ, ◌<◌, nat_eq, List, slice_index}
use Rattle.std.specs.List.{list_all}
use Rattle.gt_base.specs.Held.{TriggerView}
use Rattle.gtrbac_model.specs.WholePolicy.{has_cause}
use Rattle.indexmap.specs.IndexMap.{get}
use Rattle.dependency_graph.specs.Nets.{EventNet}
use Rattle.dependency_graph.specs.Carried.{level_in}
use Rattle.trigger_rules.specs.Indexed.{numbers, under}
use Rattle.instant_engine.specs.OnTheWay.{is_due}
use Rattle.instant_engine.specs.declared.levels.TriggerLevels.{TriggerLevels}

-- each level has the numbers of its triggers, no node has a level that is not below the count, and
-- it is known whether each trigger has an event or a signal in its body
pub record AreLevels (rules : List TriggerView) (g : EventNet) (strata : List ℕ)
    (l : TriggerLevels) : Type 0 where
  pub due : (n : ℕ) → under (get nat_eq l.index n) (λ v. v.items)
      ≡ numbers (is_due (level_in g.events strata) n) 0 rules
  pub above : (v : ℕ) → slice_index strata v < l.count
  pub caused : l.caused ≡ list_all has_cause rules
