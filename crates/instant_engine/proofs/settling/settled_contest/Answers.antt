use Rattle.std.proofs.Common.{◌≡◌, List, subst, IfOk}
use Rattle.gt_base.specs.Held.{TriggerView}
use Rattle.gt_base.specs.Happening.{HappenedView}
use Rattle.gt_base.specs.Sets.{has}
use Rattle.gtrbac_model.specs.Instant.{Settled}
use Rattle.instant_engine.proofs.settling.settled_contest.Goals as goal

pub returns-clause-only : goal.returns-clause-only
returns-clause-only c =
    subst (λ (r : List TriggerView). IfOk c.settled_over.result (λ x. (y : HappenedView) → Settled r c.args.base.now.set (has c.args.before.now.set) y → y ≡ x)) c.new-by.ensures.rules c.settled_over.ensures.only
