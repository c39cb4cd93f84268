use Rattle.std.proofs.Common.{◌≡◌, List, IfOk, sym, ◌∙◌, subst}
use Rattle.gt_base.specs.Sets.{has}
use Rattle.gt_base.specs.declared.policies.HierEdge.{HierEdge}
use Rattle.gtrbac_model.specs.Hierarchy.{permission_walk_of_any}
use Rattle.hybrid_hierarchy.specs.Nets.{IsHierarchy}
use Rattle.hybrid_hierarchy.specs.Searches.{IsOutgoing}
use Rattle.hybrid_hierarchy.proofs.hierarchies.Hierarchy.reaches_any.Goals as goal

pub lending_by_any-requires-clause-hierarchy : goal.lending_by_any-requires-clause-hierarchy
lending_by_any-requires-clause-hierarchy c = subst (λ (es : List HierEdge). IsHierarchy es) (sym c.deref.ensures.value) c.self.invariant.0

pub lending_by_any-requires-clause-outgoing : goal.lending_by_any-requires-clause-outgoing
lending_by_any-requires-clause-outgoing c = subst (λ (es : List HierEdge). IsOutgoing es c.self.inside.out.first.items c.self.inside.out.next.items) (sym c.deref.ensures.value) c.self.invariant.1

pub returns : goal.returns
returns c =
    subst (λ (es : List HierEdge). IfOk c.lending_by_any.result (λ walk. walk ≡ permission_walk_of_any es (has c.args.status.now.set) c.args.active.now c.args.perm)) (c.deref.ensures.value ∙ c.self.view_is) c.lending_by_any.ensures
