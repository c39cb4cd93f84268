use Rattle.policy_book.proofs.WellFormed.{build_is_well_formed}
use Rattle.policy_book.proofs.laws.build_is_well_formed.Goals as goal

pub returns : goal.returns
returns c = build_is_well_formed
