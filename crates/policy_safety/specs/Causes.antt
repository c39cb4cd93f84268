-- What it means that triggers have no levels.
use Rattle.std.specs.Prelude.{◌≡◌, List, Some}
use Rattle.gt_base.specs.Held.{TriggerView}
use Rattle.gtrbac_model.specs.Safety.{the_cycle}
use Rattle.dependency_graph.specs.Nets.{IsGraphOf}
use Rattle.policy_safety.specs.declared.levelling.NoLevels.{NoLevels}
use Rattle.policy_safety.specs.declared.levelling.NoLevels.TheVariants.{Cycle, Memory}

-- the cycle of the triggers, with their graph
abbrev pub IsCause : List TriggerView → NoLevels → Type 0
IsCause triggers (Cycle graph edges) = IsGraphOf triggers graph × (the_cycle triggers ≡ Some edges)
IsCause triggers Memory = Unit {0}
