use Rattle.history_laws.proofs.InOrder.{active_in_order}
use Rattle.history_laws.proofs.activations.active_in_order.Goals as goal

pub returns : goal.returns
returns c = active_in_order
