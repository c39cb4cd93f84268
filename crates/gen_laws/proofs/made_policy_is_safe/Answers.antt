use Rattle.gen_laws.proofs.ReadPolicy.{policy_is_safe}
use Rattle.gen_laws.proofs.made_policy_is_safe.Goals as goal

pub returns : goal.returns
returns c = policy_is_safe
