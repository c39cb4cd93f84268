use Rattle.std.proofs.Common.{false, Some, sym, ◌∙◌, ap}
use Rattle.gt_base.specs.declared.events.Fluent.TheVariants.{Assigned}
use Rattle.gt_base.specs.Sets.{has}
use Rattle.gtrbac_model.specs.Hierarchy.{usable}
use Rattle.hybrid_hierarchy.proofs.Standing.{standing_walk}
use Rattle.hybrid_hierarchy.proofs.walks.may_activate.Goals as goal

pub returns-then-is_assigned : goal.returns-then-is_assigned
returns-then-is_assigned c =
    ap Some c.standing.ensures
    ∙ sym (standing_walk c.args.edges.now.items (usable (has c.args.status.now.set) false) (λ r. has c.args.status.now.set (Assigned c.args.user r)) c.args.role (sym c.is_assigned.ensures ∙ c.if-is_assigned.true))
