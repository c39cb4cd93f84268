use Rattle.former_laws.proofs.Walks.{stay_linked}
use Rattle.former_laws.proofs.laws.linked_stay_linked.Goals as goal

pub returns : goal.returns
returns c = stay_linked
