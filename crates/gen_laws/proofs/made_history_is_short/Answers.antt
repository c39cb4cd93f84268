use Rattle.gen_laws.proofs.Short.{history_is_short}
use Rattle.gen_laws.proofs.made_history_is_short.Goals as goal

pub returns : goal.returns
returns c = history_is_short
