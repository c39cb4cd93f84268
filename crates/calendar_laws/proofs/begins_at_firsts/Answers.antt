use Rattle.calendar_laws.proofs.Begins.{begins_at_firsts}
use Rattle.calendar_laws.proofs.begins_at_firsts.Goals as goal

pub returns : goal.returns
returns c = begins_at_firsts
