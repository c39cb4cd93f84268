use Rattle.std.proofs.Common.{arith, refl}
use Rattle.same_entries.proofs.Beginnings.{same_more, all_same}
use Rattle.same_entries.proofs.lists.begins.Goals as goal

pub loop-i-preserved : goal.loop-i-preserved
loop-i-preserved c =
    let low = c.loop-i-test.true in
    let long = c.if-others-entries.false in
    same_more c.args.entries.now c.args.others.now c.loop-i.i c.index-entries-i.result c.index-others-i.result c.loop-i.invariant low (omega (arith, low, long)) c.index-entries-i.is c.index-others-i.is
    (c.same_entry.ensures.0 c.if-not-same_entry.false)

pub returns : goal.returns
returns c =
    let low = c.loop-i-test.false in
    let high = c.loop-i.auto.i-end in (
      λ yes. all_same c.args.entries.now c.args.others.now c.loop-i.i (omega (arith, low, high)) c.loop-i.invariant,
      λ begins. refl,
    )
