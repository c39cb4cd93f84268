use Rattle.policy_text.proofs.CanonicalText.{canonical_is_read}
use Rattle.policy_text.proofs.laws.canonical_is_read.Goals as goal

pub returns : goal.returns
returns c = canonical_is_read
