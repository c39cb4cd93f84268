use Rattle.std.proofs.Common.{sym, ◌∙◌, ap}
use Rattle.gtrbac_model.specs.Conflict.{won}
use Rattle.priority_conflict.specs.Winning.{led}
use Rattle.priority_conflict.proofs.WhoLeads.{won_by}
use Rattle.priority_conflict.proofs.contests.Contest.is_won.Goals as goal

pub returns : goal.returns
returns c =
    c.leads.ensures ∙ ap (λ o. led o c.args.e) (c.copied.ensures ∙ c.get.ensures.value)
    ∙ sym (won_by c.self.inside.set.set c.args.e _ (c.self.invariant c.args.e.fluent)) ∙ ap (λ x. won x c.args.e) c.self.view_is
