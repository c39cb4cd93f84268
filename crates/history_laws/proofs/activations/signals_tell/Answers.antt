use Rattle.history_laws.proofs.Telling.{signals_tell}
use Rattle.history_laws.proofs.activations.signals_tell.Goals as goal

pub returns : goal.returns
returns c = signals_tell
