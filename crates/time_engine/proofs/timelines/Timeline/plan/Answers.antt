use Rattle.std.proofs.Common.{subst}
use Rattle.time_engine.specs.Plans.{TimelineValue, IsTimeline, IsPlan}
use Rattle.time_engine.proofs.Following.{plan_fits}
use Rattle.time_engine.proofs.timelines.Timeline.plan.Goals as goal

pub returns-clause-fits : goal.returns-clause-fits
returns-clause-fits c =
    let p = c.args.g.now.policy in
    plan_fits p c.args.self.now.line c.in_ok-plan.plan c.args.to c.in_ok-plan.ensures.at (subst (λ (v : TimelineValue). IsTimeline v.line) c.self.view_is c.self.invariant.0)
    (subst (λ (v : TimelineValue). IsPlan p v.line c.in_ok-plan.plan) c.self.view_is c.in_ok-plan.ensures.plan) c.requires.later c.requires.skipped
