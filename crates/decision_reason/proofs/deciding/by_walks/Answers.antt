use Rattle.std.proofs.Common.{◌≡◌, None, sym, ◌∙◌, ap}
use Rattle.gt_base.specs.Sets.{has}
use Rattle.gt_base.specs.declared.requests.Decision.TheVariants.{NoGrant}
use Rattle.gtrbac_model.specs.Hierarchy.{permission_walk_of_any}
use Rattle.decision_reason.specs.Shut.{denied_by}
use Rattle.decision_reason.proofs.Opening.{no_walk, denies}
use Rattle.decision_reason.proofs.deciding.by_walks.Goals as goal

pub returns-in-None : goal.returns-in-None
returns-in-None c =
    let s = has c.args.status.now.set in
    let none : permission_walk_of_any c.args.hierarchy.now s c.args.active.now c.args.perm ≡ None = sym c.in_ok-walk.ensures ∙ c.in-None.is in
    denies c.args.hierarchy.now s c.args.active.now c.args.perm NoGrant (no_walk c.args.hierarchy.now s c.args.active.now c.args.perm none) (ap (denied_by s c.args.hierarchy.now) none)

pub returns-in-Some : goal.returns-in-Some
returns-in-Some c = c.by_walk.ensures
