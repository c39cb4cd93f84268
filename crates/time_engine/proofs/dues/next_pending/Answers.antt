use Rattle.time_engine.proofs.DueEvents.{pending_next}
use Rattle.time_engine.proofs.dues.next_pending.Goals as goal

pub returns-clause-next : goal.returns-clause-next
returns-clause-next g c = pending_next c.args.s.now.pending.set c.args.s.now.present c.next_due.result c.requires.pending c.next_due.ensures.none c.next_due.ensures.some
