use Rattle.policy_lines.proofs.SaidBySpelling.{sayings_are_read}
use Rattle.policy_lines.proofs.laws.sayings_are_read.Goals as goal

pub returns : goal.returns
returns c = sayings_are_read
