use Rattle.history_laws.proofs.AddingOne.{tick_adds_one_set}
use Rattle.history_laws.proofs.tables.tick_adds_one_set.Goals as goal

pub returns : goal.returns
returns c = tick_adds_one_set
