use Rattle.walk_laws.proofs.Orders as orders
use Rattle.walk_laws.proofs.laws.one_least_cycle.Goals as goal

pub returns : goal.returns
returns c = record { numbers = orders.one_least_cycle; events = orders.one_least_cycle }
