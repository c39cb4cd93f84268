use Rattle.history_laws.proofs.Charging.{quiet_closes}
use Rattle.history_laws.proofs.tables.quiet_closes.Goals as goal

pub returns : goal.returns
returns c = quiet_closes
