use Rattle.std.proofs.Common.{◌≡◌, List, IfOk, sym, subst}
use Rattle.gt_base.specs.Sets.{has}
use Rattle.gt_base.specs.declared.policies.HierEdge.{HierEdge}
use Rattle.gtrbac_model.specs.Hierarchy.{permission_walk}
use Rattle.hybrid_hierarchy.specs.Nets.{IsHierarchy}
use Rattle.hybrid_hierarchy.proofs.walks.reaches.Goals as goal

pub lending-requires-clause-hierarchy : goal.lending-requires-clause-hierarchy
lending-requires-clause-hierarchy c = subst (λ (es : List HierEdge). IsHierarchy es) (sym c.as_slice-edges.ensures) c.requires

pub lending-requires-clause-outgoing : goal.lending-requires-clause-outgoing
lending-requires-clause-outgoing c = c.in_ok-out.ensures

pub returns : goal.returns
returns c =
    subst (λ (es : List HierEdge). IfOk c.lending.result (λ walk. walk ≡ permission_walk es (has c.args.status.now.set) c.args.active.now c.args.perm)) c.as_slice-edges.ensures c.lending.ensures
