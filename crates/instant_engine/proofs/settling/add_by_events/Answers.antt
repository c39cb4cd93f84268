use Rattle.trigger_rules.specs.Indexed.{with_event}
use Rattle.instant_engine.proofs.Steps.{part_more, parts_all}
use Rattle.instant_engine.proofs.settling.add_by_events.Goals as goal

pub loop-o-preserved : goal.loop-o-preserved
loop-o-preserved c =
    part_more (λ o. with_event c.args.r.now o.event) c.args.waiting.now.items c.loop-o.waiting.items c.by_event.result.now c.extend_from_slice.new.self.items c.args.events.now c.loop-o.o-index c.o-item.result c.o-item.result c.loop-o-test.true c.o-item.is c.in_ok-extend_from_slice.ensures.items c.by_event.ensures c.loop-o.invariant

pub returns : goal.returns
returns c = parts_all (λ o. with_event c.args.r.now o.event) c.args.waiting.now.items c.loop-o.waiting.items c.args.events.now c.loop-o.o-index c.loop-o-test.false c.loop-o.invariant
