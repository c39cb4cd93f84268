use Rattle.policy_book.proofs.Closing.{cycle_is_least}
use Rattle.policy_book.proofs.cycle_laws.computed_cycle_is_least.Goals as goal

pub returns : goal.returns
returns c = cycle_is_least
