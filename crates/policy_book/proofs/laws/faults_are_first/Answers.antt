use Rattle.policy_book.proofs.FirstFaults.{faults_are_first}
use Rattle.policy_book.proofs.laws.faults_are_first.Goals as goal

pub returns : goal.returns
returns c = faults_are_first
