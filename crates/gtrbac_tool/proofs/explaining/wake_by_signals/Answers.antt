use Rattle.std.proofs.Common.{refl}
use Rattle.trigger_rules.specs.Indexed.{with_signal}
use Rattle.instant_engine.proofs.Steps.{part_more, parts_all}
use Rattle.gtrbac_tool.proofs.explaining.wake_by_signals.Goals as goal

pub loop-s-preserved : goal.loop-s-preserved
loop-s-preserved c =
    part_more (with_signal c.args.rules.now) c.args.pending.now.items c.loop-s.pending.items c.by_signal.result.now c.extend_from_slice.new.self.items c.args.signals.now c.loop-s.s-index _ _ c.loop-s-test.true refl c.in_ok-extend_from_slice.ensures.items c.by_signal.ensures c.loop-s.invariant

pub returns : goal.returns
returns c = parts_all (with_signal c.args.rules.now) c.args.pending.now.items c.loop-s.pending.items c.args.signals.now c.loop-s.s-index c.loop-s-test.false c.loop-s.invariant
