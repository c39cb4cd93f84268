use Rattle.time_engine.proofs.HistoryLaws.{asks_follow}
use Rattle.time_engine.proofs.laws.asks_follow.Goals as goal

pub returns : goal.returns
returns c = asks_follow
