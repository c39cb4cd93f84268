use Rattle.std.proofs.Common.{List, sym, subst}
use Rattle.gt_base.specs.declared.policies.HierEdge.{HierEdge}
use Rattle.hybrid_hierarchy.specs.Nets.{IsHierarchy}
use Rattle.hybrid_hierarchy.proofs.PolicyEdges.{hierarchy_of}
use Rattle.core_machine.proofs.prepared.hierarchy_of.Goals as goal

pub new-requires : goal.new-requires
new-requires c = subst (λ (es : List HierEdge). IsHierarchy es) (sym c.edges.ensures) (hierarchy_of c.args.policy.now.policy c.keeps.ensures.policy)
