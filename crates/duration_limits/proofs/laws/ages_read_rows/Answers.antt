use Rattle.duration_limits.proofs.Reading.{reads_rows}
use Rattle.duration_limits.proofs.laws.ages_read_rows.Goals as goal

pub returns : goal.returns
returns c = reads_rows
