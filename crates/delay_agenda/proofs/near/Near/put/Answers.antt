use Rattle.delay_agenda.proofs.RowLaws.{put_set}
use Rattle.delay_agenda.proofs.near.Near.put.Goals as goal

pub returns-clause-set : goal.returns-clause-set
returns-clause-set c = rw (← c.self.view_is) (put_set _ _ _ _ c.self.invariant c.put.ensures.rises c.put.ensures.set)
