use Rattle.std.proofs.Common.{sym, ◌∙◌, ap}
use Rattle.gt_base.specs.Sets.{has}
use Rattle.gtrbac_model.specs.Conflict.{after}
use Rattle.priority_conflict.proofs.WhoLeads.{on_by, after_by}
use Rattle.priority_conflict.proofs.contests.Contest.is_on_after.Goals as goal

pub returns-in-Some : goal.returns-in-Some
returns-in-Some c =
    let s = has c.args.before.now.set in
    ap (λ o. on_by o (s c.args.f)) c.in-Some.ensures.value
    ∙ sym (after_by c.self.inside.set.set s c.args.f _ (c.self.invariant c.args.f)) ∙ ap (λ x. after x s c.args.f) c.self.view_is

pub returns-in-None : goal.returns-in-None
returns-in-None c =
    let s = has c.args.before.now.set in
    c.is_on.ensures ∙ ap (λ o. on_by o (s c.args.f)) c.in-None.ensures.value
    ∙ sym (after_by c.self.inside.set.set s c.args.f _ (c.self.invariant c.args.f)) ∙ ap (λ x. after x s c.args.f) c.self.view_is
