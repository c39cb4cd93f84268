use Rattle.std.proofs.Common.{◌∙◌}
use Rattle.gt_base.specs.declared.events.Fluent.TheVariants.{Assigned}
use Rattle.gt_base.specs.Sets.{has}
use Rattle.hybrid_hierarchy.proofs.Choosing.{of_seniors}
use Rattle.hybrid_hierarchy.proofs.walks.assigned_roles.Goals as goal

pub returns : goal.returns
returns c =
    of_seniors c.assigned_among.result (λ v. v.items) c.args.out.now.first.items c.deref.result.now (λ r. has c.args.status.now.set (Assigned c.args.user (record { 0 = r })))
    (c.deref.ensures.value ∙ c.args.out.now.listed) c.assigned_among.ensures
