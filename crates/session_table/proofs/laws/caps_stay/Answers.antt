use Rattle.session_table.proofs.Capped.{caps_stay}
use Rattle.session_table.proofs.laws.caps_stay.Goals as goal

pub returns : goal.returns
returns c = caps_stay
