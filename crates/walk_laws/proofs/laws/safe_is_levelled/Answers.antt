use Rattle.walk_laws.proofs.Climbing as climbing
use Rattle.walk_laws.proofs.laws.safe_is_levelled.Goals as goal

pub returns : goal.returns
returns c = climbing.safe_is_levelled
