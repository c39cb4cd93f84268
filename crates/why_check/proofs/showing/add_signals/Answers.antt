use Rattle.std.proofs.Common.{arith, ◌∙◌}
use Rattle.gt_base.proofs.SetSteps.{signal_cmp_total}
use Rattle.instant_bases.proofs.Joining.{joined_more}
use Rattle.why_check.proofs.showing.add_signals.Goals as goal

pub loop-x-preserved : goal.loop-x-preserved
loop-x-preserved c = record {
  room = omega arith;
  events = c.add_signal.ensures.events ∙ c.loop-x.invariant.events;
  signals = λ x. joined_more signal_cmp_total c.loop-x.into.set.signals _ c.args.signals.now c.loop-x.x-index _ x _ c.add_signal.ensures.signals c.loop-x-test.true (c.loop-x.invariant.signals x);
}
