use Rattle.history_laws.proofs.Continuing.{tables_go_on, queue_goes_on}
use Rattle.history_laws.proofs.tables.steps_go_on.Goals as goal

pub returns : goal.returns
returns c = record { tables = λ p birth h m. tables_go_on p birth m h; queue = queue_goes_on }
