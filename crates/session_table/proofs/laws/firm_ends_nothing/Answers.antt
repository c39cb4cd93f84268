use Rattle.session_table.proofs.Closing.{firm_ends_nothing}
use Rattle.session_table.proofs.laws.firm_ends_nothing.Goals as goal

pub returns : goal.returns
returns c = firm_ends_nothing
