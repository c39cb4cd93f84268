use Rattle.std.proofs.Common.{subst}
use Rattle.gtrbac_model.specs.Safety.{IsSafe}
use Rattle.policy_safety.proofs.Answering.{safe}
use Rattle.policy_safety.proofs.admitting.Safe.keeps.Goals as goal

pub returns : goal.returns
returns c =
    subst (λ p. IsSafe p.policy.triggers) c.self.view_is (safe c.self.inside.policy.policy.triggers c.self.inside.graph c.self.inside.strata c.self.invariant)
