use Rattle.std.proofs.Common.{subst}
use Rattle.safety_cycle.specs.Judged.{IsVerdict}
use Rattle.policy_safety.proofs.Answering.{levelled, safe, cause}
use Rattle.policy_safety.proofs.levelling.levels.Goals as goal

pub returns-in-Ok-judge-clause-ok : goal.returns-in-Ok-judge-clause-ok
returns-in-Ok-judge-clause-ok c = levelled c.args.triggers.now.items c.in-Ok.graph _ c.in-Ok-judge.strata c.in-Ok.ensures c.graph-2.ensures c.in-Ok-judge.ensures.ok

pub returns-in-Ok-judge-clause-safe : goal.returns-in-Ok-judge-clause-safe
returns-in-Ok-judge-clause-safe c =
    safe c.args.triggers.now.items c.in-Ok.graph c.in-Ok-judge.strata
    (levelled c.args.triggers.now.items c.in-Ok.graph _ c.in-Ok-judge.strata c.in-Ok.ensures c.graph-2.ensures c.in-Ok-judge.ensures.ok)

pub returns-in-Err-Cycle-clause-cycle : goal.returns-in-Err-Cycle-clause-cycle
returns-in-Err-Cycle-clause-cycle c =
    cause c.args.triggers.now.items c.in-Ok.graph _ c.in-Err-Cycle.edges c.in-Ok.ensures c.graph-2.ensures
    (subst (λ v. IsVerdict c.graph-2.result.now v) c.in-Err-Cycle.field-0-is c.in-Err-Cycle.ensures.cycle)
