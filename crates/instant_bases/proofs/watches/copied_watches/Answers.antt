use Rattle.instant_bases.proofs.Copying.{copied_more, copied_all}
use Rattle.instant_bases.proofs.watches.copied_watches.Goals as goal

pub loop-w-preserved : goal.loop-w-preserved
loop-w-preserved c =
    copied_more c.args.watches.now c.loop-w.copies.items c.push.new.self.items c.loop-w.w-index c.in_ok-copied.field-0 c.w-item.result c.loop-w-test.true c.w-item.is c.in_ok-copied.ensures c.in_ok-push.ensures.items c.loop-w.invariant

pub returns : goal.returns
returns c = copied_all c.args.watches.now c.loop-w.copies.items c.loop-w.w-index c.loop-w-test.false c.loop-w.invariant
