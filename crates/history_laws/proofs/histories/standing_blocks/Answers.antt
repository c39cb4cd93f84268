use Rattle.history_laws.proofs.Blocking.{standing_blocks, blocked_still_blocks}
use Rattle.history_laws.proofs.histories.standing_blocks.Goals as goal

pub returns : goal.returns
returns c = record { law = standing_blocks; row = blocked_still_blocks }
