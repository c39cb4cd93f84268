use Rattle.policy_lines.proofs.writing.write_said.Goals as goal

pub returns-in-Period : goal.returns-in-Period
returns-in-Period c = rw c.in-Period.is c.write_period.ensures
