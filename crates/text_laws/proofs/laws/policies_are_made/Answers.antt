use Rattle.text_laws.proofs.Made.{policies_are_made}
use Rattle.text_laws.proofs.laws.policies_are_made.Goals as goal

pub returns : goal.returns
returns c = policies_are_made
