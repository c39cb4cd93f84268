use Rattle.delay_agenda.proofs.RowLaws.{none_of_none, none_rise}
use Rattle.delay_agenda.proofs.near.Near.new.Goals as goal

pub invariant_of-result : goal.invariant_of-result
invariant_of-result c = rw (c.new.ensures.empty, c.new-2.ensures.items) none_rise

pub returns-clause-set : goal.returns-clause-set
returns-clause-set c = rw (c.new.ensures.empty, c.new-2.ensures.items) none_of_none
