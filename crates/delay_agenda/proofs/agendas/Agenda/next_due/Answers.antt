use Rattle.std.proofs.Common.{sym, subst}
use Rattle.gt_base.specs.Sets.{has}
use Rattle.delay_agenda.proofs.FarLaws.{IsNext, next_over, least_of_next, none_of_next}
use Rattle.delay_agenda.proofs.agendas.Agenda.next_due.Goals as goal

next : (c : goal.After-next_due-2) → IsNext (has c.args.self.now.set) c.next_due-2.result
next c =
    subst (λ o. IsNext (has c.args.self.now.set) o) (sym c.next_due-2.ensures)
    (rw (← c.self.view_is, c.deref.ensures.value) (next_over c.self.inside.near.set c.next_due.result c.self.inside.far.items c.next_due.ensures.none c.next_due.ensures.some))

pub returns-clause-none : goal.returns-clause-none
returns-clause-none c = none_of_next _ _ (next c)

pub returns-clause-some : goal.returns-clause-some
returns-clause-some c = least_of_next _ _ (next c)
