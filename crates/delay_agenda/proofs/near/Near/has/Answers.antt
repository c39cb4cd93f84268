use Rattle.delay_agenda.proofs.RowLaws.{in_tree_or_row, in_the_tree}
use Rattle.delay_agenda.proofs.near.Near.has.Goals as goal

pub returns-then-is_new : goal.returns-then-is_new
returns-then-is_new c = rw (← c.self.view_is) (in_tree_or_row _ _ _ _ _ c.self.invariant.row_rises c.is_new.ensures c.if-is_new.true (rw (← c.deref.ensures.value) c.is_in.ensures))

pub returns-else-is_new : goal.returns-else-is_new
returns-else-is_new c = rw (← c.self.view_is) (in_the_tree _ _ _ _ c.is_new.ensures c.if-is_new.false)
