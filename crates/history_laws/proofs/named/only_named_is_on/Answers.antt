use Rattle.history_laws.proofs.Naming.{only_named_is_on}
use Rattle.history_laws.proofs.named.only_named_is_on.Goals as goal

pub returns : goal.returns
returns c = only_named_is_on
