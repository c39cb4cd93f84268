use Rattle.former_laws.proofs.Bodies.{met_as_before}
use Rattle.former_laws.proofs.laws.bodies_as_before.Goals as goal

pub returns : goal.returns
returns c = met_as_before
