use Rattle.gen_laws.proofs.ReadPolicy.{policy_is_read, policy_is_good}
use Rattle.gen_laws.proofs.made_policy_is_read.Goals as goal

pub returns : goal.returns
returns c = record { read = policy_is_read; well_formed = policy_is_good }
