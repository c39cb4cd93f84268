use Rattle.walk_laws.proofs.Bodies.{bare_met, bare_dependencies}
use Rattle.walk_laws.proofs.dependencies.bare_triggers.Goals as goal

pub returns : goal.returns
returns c = record { met = bare_met; dependencies = bare_dependencies }
