use Rattle.std.proofs.Common.{subst}
use Rattle.instant_bases.specs.Timelines.{TimelineView}
use Rattle.time_engine.specs.Plans.{IsAfter}
use Rattle.time_engine.proofs.timelines.Timeline.close.Goals as goal

pub returns-clause-ok : goal.returns-clause-ok
returns-clause-ok c = record {
  plan = c.in_ok-plan.plan;
  at = c.in_ok-plan.ensures.at;
  is_plan = c.in_ok-plan.ensures.plan;
  after = subst (λ (v : TimelineView). IsAfter v c.in_ok-plan.plan c.commit.new.self.line) c.plan.ensures.line c.commit.ensures.after;
}
