use Rattle.std.proofs.Common.{◌≡◌, List, IfOk, sym, ◌∙◌, subst}
use Rattle.gt_base.specs.Sets.{has}
use Rattle.gt_base.specs.declared.policies.HierEdge.{HierEdge}
use Rattle.gtrbac_model.specs.Hierarchy.{permission_walk}
use Rattle.hybrid_hierarchy.specs.Nets.{IsHierarchy}
use Rattle.hybrid_hierarchy.specs.Searches.{IsOutgoing}
use Rattle.hybrid_hierarchy.proofs.hierarchies.Hierarchy.reaches.Goals as goal

pub lending-requires-clause-hierarchy : goal.lending-requires-clause-hierarchy
lending-requires-clause-hierarchy c = subst (λ (es : List HierEdge). IsHierarchy es) (sym c.deref.ensures.value) c.self.invariant.0

pub lending-requires-clause-outgoing : goal.lending-requires-clause-outgoing
lending-requires-clause-outgoing c = subst (λ (es : List HierEdge). IsOutgoing es c.self.inside.out.first.items c.self.inside.out.next.items) (sym c.deref.ensures.value) c.self.invariant.1

pub returns : goal.returns
returns c =
    subst (λ (es : List HierEdge). IfOk c.lending.result (λ walk. walk ≡ permission_walk es (has c.args.status.now.set) c.args.active.now c.args.perm)) (c.deref.ensures.value ∙ c.self.view_is) c.lending.ensures
