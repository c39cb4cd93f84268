use Rattle.policy_lines.proofs.WrittenLines.{written_is_read}
use Rattle.policy_lines.proofs.laws.written_is_read.Goals as goal

pub returns : goal.returns
returns c = written_is_read
