use Rattle.std.proofs.Common.{◌≡◌, ◌+◌, length, arith}
use Rattle.gt_base.specs.Sets.{members}
use Rattle.delay_agenda.specs.Rows.{new_in}
use Rattle.delay_agenda.proofs.RowLaws.{count_pairs}
use Rattle.delay_agenda.proofs.near.Near.len.Goals as goal

pub overflow_add-result : goal.overflow_add-result
overflow_add-result c = omega (arith, c.len.ensures.small, c.count_new.ensures.bound, c.deref.type_inv.1)

pub returns-clause-count : goal.returns-clause-count
returns-clause-count c =
    let all : length (members c.args.self.now.set) ≡ length c.self.inside.tree.keys + length (new_in c.self.inside.tree.keys c.deref.result.now) =
    rw (← c.self.view_is, c.deref.ensures.value) (count_pairs _ _ c.self.invariant) in
    omega (arith, all, c.len.ensures.len, c.count_new.ensures.count)

pub returns-clause-fits : goal.returns-clause-fits
returns-clause-fits c = omega (arith, c.len.ensures.small, c.count_new.ensures.bound, c.deref.type_inv.1)
