use Rattle.session_table.proofs.Capped.{close_leaves}
use Rattle.session_table.proofs.laws.close_leaves.Goals as goal

pub returns : goal.returns
returns c = close_leaves
