use Rattle.calendar_laws.proofs.Insides.{ends_do_not_cross}
use Rattle.calendar_laws.proofs.ends_do_not_cross.Goals as goal

pub returns : goal.returns
returns c = ends_do_not_cross
