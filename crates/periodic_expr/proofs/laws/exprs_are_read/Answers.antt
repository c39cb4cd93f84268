use Rattle.periodic_expr.proofs.Accepted.{said_both, fault_both}
use Rattle.periodic_expr.proofs.Stops.{syntax_both}
use Rattle.periodic_expr.proofs.laws.exprs_are_read.Goals as goal

pub returns : goal.returns
returns c = record { said = said_both; syntax = syntax_both; fault = fault_both }
