use Rattle.audit_laws.proofs.Permitting.{permits_are_earned}
use Rattle.audit_laws.proofs.decisions.permits_are_earned.Goals as goal

pub returns : goal.returns
returns c = permits_are_earned
