use Rattle.time_engine.proofs.WaitingLaws.{waiting_follow}
use Rattle.time_engine.proofs.laws.signals_follow.Goals as goal

pub returns : goal.returns
returns c = waiting_follow
