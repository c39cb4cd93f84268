-- The cycle that is computed of a hierarchy is the least.
use Rattle.std.proofs.Common.{◌≡◌, ℕ, true, List, Some, refl}
use Rattle.gt_base.specs.declared.events.RoleId.{RoleId}
use Rattle.gt_base.specs.declared.policies.HierEdge.{HierEdge}
use Rattle.gtrbac_model.specs.Same.{same_role}
use Rattle.gtrbac_model.specs.Graph.{Arc, item_at}
use Rattle.gtrbac_model.specs.EdgeCycles.{closing, first_closing, every, CycleIsLeast}
use Rattle.walk_laws.proofs.LeastCycle.{ClosesWith, marked_closes, first_is_least}
use Rattle.walk_laws.proofs.Roles.{tells_apart}

abbrev pub arc_of : HierEdge → Arc RoleId
arc_of e = record { from = e.senior; to = e.junior; is_open = true }

closes : (es : List HierEdge) (n : ℕ) (e : HierEdge) → item_at es n ≡ Some e → ClosesWith arc_of es every n (closing es n e)
closes es n e is = marked_closes arc_of es every same_role tells_apart n e is refl

pub cycle_is_least : CycleIsLeast
cycle_is_least es = first_is_least arc_of es every (closing es) (first_closing es) (closes es) (λ n. refl) (λ n e rest. refl)
