use Rattle.walk_laws.proofs.Depending.{tells}
use Rattle.walk_laws.proofs.dependencies.dependencies_tell.Goals as goal

pub returns : goal.returns
returns c = tells
