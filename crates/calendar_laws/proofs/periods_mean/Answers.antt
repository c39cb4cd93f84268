use Rattle.calendar_laws.proofs.Insides.{begins_are, starts_are, insides_are}
use Rattle.calendar_laws.proofs.periods_mean.Goals as goal

pub returns : goal.returns
returns c = record { begins_are = begins_are; starts_are = starts_are; insides_are = insides_are }
