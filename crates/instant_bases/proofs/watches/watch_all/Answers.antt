use Rattle.std.proofs.Common.{◌∙◌}
use Rattle.instant_bases.proofs.Copying.{copied_more, copied_all}
use Rattle.instant_bases.proofs.watches.watch_all.Goals as goal

pub loop-p-preserved : goal.loop-p-preserved
loop-p-preserved c =
    copied_more c.args.periods.now c.loop-p.watches.items c.push.new.self.items c.loop-p.p-index c.new.result c.p-item.result c.loop-p-test.true c.p-item.is (c.new.ensures ∙ c.in_ok-copied.ensures) c.in_ok-push.ensures.items c.loop-p.invariant

pub returns : goal.returns
returns c = copied_all c.args.periods.now c.loop-p.watches.items c.loop-p.p-index c.loop-p-test.false c.loop-p.invariant
