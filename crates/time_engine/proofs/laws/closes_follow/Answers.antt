use Rattle.time_engine.proofs.HistoryLaws.{close_is_legal, close_follows}
use Rattle.time_engine.proofs.laws.closes_follow.Goals as goal

pub returns-clause-legal : goal.returns-clause-legal
returns-clause-legal c = close_is_legal

pub returns-clause-follows : goal.returns-clause-follows
returns-clause-follows c = close_follows
