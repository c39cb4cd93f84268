use Rattle.policy_commands.proofs.Cycles.{safe_told}
use Rattle.policy_commands.proofs.judging.judge.Goals as goal

pub returns-in-Ok : goal.returns-in-Ok
returns-in-Ok c = (c.in-Ok.ensures.same, safe_told c.args.policy c.in-Ok.ensures.safe)
