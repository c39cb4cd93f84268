use Rattle.policy_text.proofs.Canonical.{canonical_is_built}
use Rattle.policy_text.proofs.laws.canonical_is_built.Goals as goal

pub returns : goal.returns
returns c = canonical_is_built
