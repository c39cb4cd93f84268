use Rattle.std.proofs.Common.{◌≡◌, ℕ, ◌<◌, Some}
use Rattle.gt_base.specs.declared.policies.HierEdge.{HierEdge}
use Rattle.gtrbac_model.specs.Graph.{item_at}
use Rattle.hybrid_hierarchy.specs.Nets.{HasRoles}
use Rattle.part_checks.proofs.walks.are_within.Given as goal

abbrev pub invariant-loop-e : goal.invariant-loop-e
invariant-loop-e l = (m : ℕ) (e : HierEdge) → m < l.e-index → item_at l.edges m ≡ Some e → HasRoles 1_000 e
