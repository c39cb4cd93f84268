use Rattle.std.proofs.Common.{arith, ◌∙◌}
use Rattle.gt_base.proofs.SetSteps.{prioritised_cmp_total}
use Rattle.instant_bases.proofs.Joining.{joined_more}
use Rattle.why_check.proofs.showing.add_events.Goals as goal

pub loop-e-preserved : goal.loop-e-preserved
loop-e-preserved c = record {
  room = omega arith;
  signals = c.add.ensures.signals ∙ c.loop-e.invariant.signals;
  events = λ e. joined_more prioritised_cmp_total c.loop-e.into.set.events _ c.args.events.now c.loop-e.e-index c.e-item.result e _ (rw (← c.e-item.is) c.add.ensures.events) c.loop-e-test.true (c.loop-e.invariant.events e);
}
