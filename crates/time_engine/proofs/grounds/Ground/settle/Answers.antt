use Rattle.std.proofs.Common.{◌≡◌, ◌∙◌, ap, subst, List}
use Rattle.std.specs.Prelude.{IfOk}
use Rattle.gt_base.specs.Held.{TriggerView}
use Rattle.gt_base.specs.Happening.{HappenedView}
use Rattle.gt_base.specs.Sets.{has}
use Rattle.gtrbac_model.specs.Instant.{Settled}
use Rattle.policy_words.specs.Naming.{NamedPolicy}
use Rattle.time_engine.proofs.grounds.Ground.settle.Goals as goal

pub returns-clause-only : goal.returns-clause-only
returns-clause-only c =
    subst (λ (rules : List TriggerView). IfOk c.settled_contest.result (λ x. (y : HappenedView) → Settled rules c.args.base.now.set (has c.args.before.now.set) y → y ≡ x))
    (c.self.invariant.1 ∙ ap (λ (k : NamedPolicy). k.policy.triggers) c.self.view_is) c.settled_contest.ensures.only
