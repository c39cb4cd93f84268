use Rattle.std.proofs.Common.{arith}
use Rattle.delay_agenda.proofs.agendas.Agenda.due_count.Goals as goal

pub overflow_add-result : goal.overflow_add-result
overflow_add-result c = omega (arith, c.due_count.ensures.fits, c.count_due.ensures.bound, c.deref.type_inv.1)
