use Rattle.std.proofs.Common.{subst, sym}
use Rattle.dependency_graph.specs.Nets.{IsWithinLimits}
use Rattle.gtrbac_model.specs.Safety.{IsSafe}
use Rattle.gtrbac_model.proofs.Levels.{by_trigger}
use Rattle.gtrbac_model.proofs.Playing.{levels_give_one_model}
use Rattle.walk_laws.proofs.Climbing.{safe_is_levelled}
use Rattle.policy_safety.proofs.Within.{within}
use Rattle.policy_safety.proofs.admitting.Safe.admit.Goals as goal

pub levels-requires : goal.levels-requires
levels-requires c = subst IsWithinLimits (sym c.triggers.ensures) (within c.args.policy.policy c.keeps.ensures.policy)

pub returns-in-Ok-clause-one : goal.returns-in-Ok-clause-one
returns-in-Ok-clause-one c =
    let p = c.args.policy.policy in
    let safe : IsSafe p.triggers = subst IsSafe c.triggers.ensures c.in-Ok.ensures.safe in
    let levels = safe_is_levelled p.triggers safe in
    levels_give_one_model p levels.0 (by_trigger p.triggers levels.0 levels.1)
