use Rattle.policy_commands.proofs.Answered.{safe_means, unsafe_means, fault_means}
use Rattle.policy_commands.proofs.laws.check_means.Goals as goal

pub returns-clause-safe : goal.returns-clause-safe
returns-clause-safe c = safe_means

pub returns-clause-cycle : goal.returns-clause-cycle
returns-clause-cycle c = unsafe_means

pub returns-clause-fault : goal.returns-clause-fault
returns-clause-fault c = fault_means
