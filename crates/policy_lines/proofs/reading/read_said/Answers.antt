use Rattle.policy_lines.proofs.SaidBySpelling.{all_in_range}
use Rattle.policy_lines.proofs.reading.read_said.Goals as goal

pub returns-clause-saying : goal.returns-clause-saying
returns-clause-saying c = all_in_range c.args.version c.args.line.now c.read_line.result c.read_line.ensures.ok
