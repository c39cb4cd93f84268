use Rattle.std.proofs.Common.{◌≡◌, ◌+◌, length, arith}
use Rattle.delay_agenda.specs.Due.{count_due}
use Rattle.delay_agenda.specs.Rows.{due_in, new_due_in}
use Rattle.delay_agenda.proofs.RowLaws.{count_due_pairs}
use Rattle.delay_agenda.proofs.near.Near.due_count.Goals as goal

pub overflow_add-result : goal.overflow_add-result
overflow_add-result c = omega (arith, c.count_due.ensures.fits, c.count_due-2.ensures.bound, c.deref.type_inv.1)

pub returns-clause-count : goal.returns-clause-count
returns-clause-count c =
    let all : count_due c.args.self.now.set c.args.t ≡ length (due_in c.self.inside.tree.keys c.args.t) + length (new_due_in c.self.inside.tree.keys c.deref.result.now c.args.t) =
    rw (← c.self.view_is, c.deref.ensures.value) (count_due_pairs _ _ c.args.t c.self.invariant) in
    omega (arith, all, c.count_due.ensures.count, c.count_due-2.ensures.count)

pub returns-clause-fits : goal.returns-clause-fits
returns-clause-fits c = omega (arith, c.count_due.ensures.fits, c.count_due-2.ensures.bound, c.deref.type_inv.1)
