use Rattle.history_laws.proofs.OnItsWay.{pending_is_raised, pending_after_ask, heads_after_tick}
use Rattle.history_laws.proofs.tables.pending_is_raised.Goals as goal

pub returns : goal.returns
returns c = record { raised = pending_is_raised; asks = pending_after_ask; ticks = heads_after_tick }
