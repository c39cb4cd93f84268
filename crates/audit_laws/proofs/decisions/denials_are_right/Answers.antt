use Rattle.audit_laws.proofs.Checked.{denials_are_right}
use Rattle.audit_laws.proofs.decisions.denials_are_right.Goals as goal

pub returns : goal.returns
returns c = denials_are_right
