use Rattle.history_laws.proofs.Lasting.{longer_agrees}
use Rattle.history_laws.proofs.histories.longer_agrees.Goals as goal

pub returns : goal.returns
returns c = longer_agrees
