use Rattle.time_engine.proofs.HistoryLaws.{born_follows}
use Rattle.time_engine.proofs.laws.born_follows.Goals as goal

pub returns : goal.returns
returns c = born_follows
