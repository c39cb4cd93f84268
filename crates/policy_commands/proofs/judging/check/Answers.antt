use Rattle.std.proofs.Common.{subst}
use Rattle.policy_commands.specs.Admitting.{IsAdmitted}
use Rattle.policy_commands.proofs.Ending.{check_all, check_ended, cycle_of}
use Rattle.policy_commands.proofs.judging.check.Goals as goal

pub returns-in-Safe-clause-end : goal.returns-in-Safe-clause-end
returns-in-Safe-clause-end c = check_all c.args.text.now c.in-Safe.field-0 (subst (IsAdmitted c.args.text.now) c.in-Safe.is c.in_ok-admit.ensures) c.safe_end.result c.safe_end.ensures

pub returns-clause-end : goal.returns-clause-end
returns-clause-end c = check_ended c.args.text.now c.in-Ended.end (subst (IsAdmitted c.args.text.now) c.in-Ended.is c.in_ok-admit.ensures)

pub returns-clause-cycle : goal.returns-clause-cycle
returns-clause-cycle c = cycle_of c.args.text.now c.in-Ended.end (subst (IsAdmitted c.args.text.now) c.in-Ended.is c.in_ok-admit.ensures)
