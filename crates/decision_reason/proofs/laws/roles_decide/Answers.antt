use Rattle.decision_reason.proofs.OfMembers.{roles_decide}
use Rattle.decision_reason.proofs.laws.roles_decide.Goals as goal

pub returns : goal.returns
returns c = roles_decide
