use Rattle.std.proofs.Common.{◌≡◌, None, Some, sym, ◌∙◌, ap}
use Rattle.gt_base.specs.Sets.{has}
use Rattle.gt_base.specs.declared.requests.Decision.TheVariants.{Shut}
use Rattle.gtrbac_model.specs.Hierarchy.{permission_walk}
use Rattle.decision_reason.proofs.Opening.{permits, denies}
use Rattle.decision_reason.proofs.deciding.past_shut.Goals as goal

pub returns-in-Some : goal.returns-in-Some
returns-in-Some c =
    let s = has c.args.status.now.set in
    permits c.args.hierarchy.now s c.args.active.now c.args.perm c.in-Some.walk (sym c.in_ok-walk.ensures ∙ c.in-Some.is)

pub returns-in-None : goal.returns-in-None
returns-in-None c =
    let s = has c.args.status.now.set in
    let none : permission_walk c.args.hierarchy.now s c.args.active.now c.args.perm ≡ None = sym c.in_ok-walk.ensures ∙ c.in-None.is in
    denies c.args.hierarchy.now s c.args.active.now c.args.perm (Shut c.args.edge) none c.requires
