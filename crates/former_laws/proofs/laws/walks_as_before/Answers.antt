use Rattle.former_laws.proofs.Walks.{usable_as_before, allowed_as_before, lent_as_before, any_as_before, decided_as_before}
use Rattle.former_laws.proofs.laws.walks_as_before.Goals as goal

pub returns : goal.returns
returns c = record { usable = usable_as_before; allowed = allowed_as_before; lent = lent_as_before; any = any_as_before; decided = decided_as_before }
