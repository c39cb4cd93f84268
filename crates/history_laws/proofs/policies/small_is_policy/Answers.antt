use Rattle.history_laws.proofs.SmallOne.{small_is_policy}
use Rattle.history_laws.proofs.policies.small_is_policy.Goals as goal

pub returns : goal.returns
returns c = small_is_policy
