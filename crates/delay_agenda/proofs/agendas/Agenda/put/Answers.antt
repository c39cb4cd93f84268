use Rattle.std.proofs.Common.{ap, ◌∙◌}
use Rattle.gt_base.specs.Sets.{with_member}
use Rattle.delay_agenda.specs.Due.{pending_at}
use Rattle.delay_agenda.specs.Far.{all_over}
use Rattle.delay_agenda.proofs.FarLaws.{over_put, over_pushed}
use Rattle.delay_agenda.proofs.agendas.Agenda.put.Goals as goal

pub returns-in-Ok-clause-set : goal.returns-in-Ok-clause-set
returns-in-Ok-clause-set c =
    ap (all_over c.self.inside.near.set) c.in-Ok.ensures.items ∙ over_pushed _ _ _
    ∙ ap (λ v. with_member v.set (pending_at c.args.due c.args.p)) c.self.view_is

pub returns-else-minute-self-clause-set : goal.returns-else-minute-self-clause-set
returns-else-minute-self-clause-set c =
    ap (λ s. all_over s c.self.inside.far.items) c.put.ensures.set ∙ over_put _ _ _
    ∙ ap (λ v. with_member v.set (pending_at c.args.due c.args.p)) c.self.view_is
