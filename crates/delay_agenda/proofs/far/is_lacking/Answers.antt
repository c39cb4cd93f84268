use Rattle.std.proofs.Common.{ap, not}
use Rattle.delay_agenda.proofs.FarLaws.{lacks, lists}
use Rattle.delay_agenda.proofs.far.is_lacking.Goals as goal

pub returns-then-not-contains : goal.returns-then-not-contains
returns-then-not-contains c = ap not (lacks _ _ _ _ _ c.contains.ensures.value c.if-not-contains.true c.has.ensures)

pub returns-else-not-contains : goal.returns-else-not-contains
returns-else-not-contains c = ap not (lists _ _ _ _ c.contains.ensures.value c.if-not-contains.false)
