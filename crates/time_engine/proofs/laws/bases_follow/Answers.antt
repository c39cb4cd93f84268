use Rattle.time_engine.proofs.HistoryLaws.{base_follows, raised_follows}
use Rattle.time_engine.proofs.laws.bases_follow.Goals as goal

pub returns-clause-bases : goal.returns-clause-bases
returns-clause-bases c = base_follows

pub returns-clause-raised : goal.returns-clause-raised
returns-clause-raised c = raised_follows
