use Rattle.policy_text.proofs.Canonical.{canonical_are_sayings, version_is_first}
use Rattle.policy_text.proofs.laws.canonical_are_sayings.Goals as goal

pub returns : goal.returns
returns c = record { sayings = canonical_are_sayings; version = version_is_first }
