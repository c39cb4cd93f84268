use Rattle.former_laws.proofs.Minutes.{settled_alike, delayed_alike}
use Rattle.former_laws.proofs.laws.minutes_as_before.Goals as goal

pub returns : goal.returns
returns c = record { settled = λ rules base s x bare. settled_alike rules bare base s x; delayed = delayed_alike }
