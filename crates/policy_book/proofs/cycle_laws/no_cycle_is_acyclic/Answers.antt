use Rattle.policy_book.proofs.Acyclic.{none_is_acyclic}
use Rattle.policy_book.proofs.cycle_laws.no_cycle_is_acyclic.Goals as goal

pub returns : goal.returns
returns c = none_is_acyclic
