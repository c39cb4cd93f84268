use Rattle.duration_limits.proofs.Steps.{by_steps}
use Rattle.duration_limits.proofs.laws.ages_follow_changes.Goals as goal

pub returns : goal.returns
returns c = by_steps
