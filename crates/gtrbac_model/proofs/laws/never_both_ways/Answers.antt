use Rattle.gtrbac_model.proofs.Winning.{never_both_ways}
use Rattle.gtrbac_model.proofs.laws.never_both_ways.Goals as goal

pub returns : goal.returns
returns c = never_both_ways
