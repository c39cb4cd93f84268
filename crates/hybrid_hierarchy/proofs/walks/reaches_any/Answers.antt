use Rattle.std.proofs.Common.{◌≡◌, List, IfOk, sym, subst}
use Rattle.gt_base.specs.Sets.{has}
use Rattle.gt_base.specs.declared.policies.HierEdge.{HierEdge}
use Rattle.gtrbac_model.specs.Hierarchy.{permission_walk_of_any}
use Rattle.hybrid_hierarchy.specs.Nets.{IsHierarchy}
use Rattle.hybrid_hierarchy.proofs.walks.reaches_any.Goals as goal

pub lending_by_any-requires-clause-hierarchy : goal.lending_by_any-requires-clause-hierarchy
lending_by_any-requires-clause-hierarchy c = subst (λ (es : List HierEdge). IsHierarchy es) (sym c.as_slice-edges.ensures) c.requires

pub lending_by_any-requires-clause-outgoing : goal.lending_by_any-requires-clause-outgoing
lending_by_any-requires-clause-outgoing c = c.in_ok-out.ensures

pub returns : goal.returns
returns c =
    subst (λ (es : List HierEdge). IfOk c.lending_by_any.result (λ walk. walk ≡ permission_walk_of_any es (has c.args.status.now.set) c.args.active.now c.args.perm)) c.as_slice-edges.ensures c.lending_by_any.ensures
