use Rattle.periodic_expr.proofs.Again.{printed_is_read}
use Rattle.periodic_expr.proofs.laws.printed_is_read.Goals as goal

pub returns : goal.returns
returns c = printed_is_read
