use Rattle.history_laws.proofs.OnItsWay.{stretch_stays}
use Rattle.history_laws.proofs.tables.stretch_stays.Goals as goal

pub returns : goal.returns
returns c = stretch_stays
