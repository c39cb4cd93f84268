use Rattle.session_table.proofs.Closing.{stretches_close}
use Rattle.session_table.proofs.laws.stretches_close.Goals as goal

pub returns : goal.returns
returns c = stretches_close
