use Rattle.history_laws.proofs.NamedPoints.{points_are_named}
use Rattle.history_laws.proofs.named.points_are_named.Goals as goal

pub returns : goal.returns
returns c = points_are_named
