use Rattle.std.proofs.Common.{ap, ◌∙◌, not}
use Rattle.gt_base.specs.Sets.{those}
use Rattle.delay_agenda.specs.Due.{is_due_at}
use Rattle.delay_agenda.specs.Far.{all_over}
use Rattle.delay_agenda.proofs.FarLaws.{over_those}
use Rattle.delay_agenda.proofs.agendas.Agenda.forget.Goals as goal

pub returns-clause-set : goal.returns-clause-set
returns-clause-set c =
    ap (λ s. all_over s c.forget-2.new.far.items) c.forget.ensures.set
    ∙ over_those (λ p. not (is_due_at c.args.t p)) _ _ _ c.forget-2.ensures.items
    ∙ ap (λ v. those v.set (λ p. not (is_due_at c.args.t p))) c.self.view_is
