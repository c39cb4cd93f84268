use Rattle.delay_agenda.proofs.RowLaws.{inserted_set, tree_rises}
use Rattle.delay_agenda.proofs.near.Near.insert.Goals as goal

pub invariant_of-self-2 : goal.invariant_of-self-2
invariant_of-self-2 c = record { tree_rises = tree_rises _ c.in_ok-insert.ensures.ordered; row_rises = c.self.invariant.row_rises }

pub returns-clause-ok : goal.returns-clause-ok
returns-clause-ok c = rw (← c.self.view_is) (inserted_set _ _ _ c.args.p c.in_ok-insert.ensures.updates.0)
