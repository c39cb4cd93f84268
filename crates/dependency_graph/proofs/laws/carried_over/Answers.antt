use Rattle.dependency_graph.proofs.Carrying.{cycles_carry_over, levels_carry_over}
use Rattle.dependency_graph.proofs.laws.carried_over.Goals as goal

pub returns : goal.returns
returns c = record { cycles = cycles_carry_over; levels = levels_carry_over }
