use Rattle.delay_agenda.proofs.RowLaws.{kept_rise, kept_set}
use Rattle.delay_agenda.proofs.near.Near.forget.Goals as goal

pub invariant_of-self : goal.invariant_of-self
invariant_of-self c = rw (c.forget_due.ensures, c.forget_due-2.ensures.items) (kept_rise _ _ _ c.self.invariant)

pub returns-clause-set : goal.returns-clause-set
returns-clause-set c = rw (← c.self.view_is, c.forget_due.ensures, c.forget_due-2.ensures.items) (kept_set _ _ _ c.self.invariant)
