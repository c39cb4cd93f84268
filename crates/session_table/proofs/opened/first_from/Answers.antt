use Rattle.std.proofs.Common.{◌+◌, ◌-◌, ◌/◌, ◌<◌, length, arith}
use Rattle.session_table.proofs.Numbering.{below_mid, above_mid}
use Rattle.session_table.proofs.opened.first_from.Goals as goal

pub loop-low-preserved-then-number_at-number : goal.loop-low-preserved-then-number_at-number
loop-low-preserved-then-number_at-number c =
    let inv = c.loop-low.invariant in
    let low : c.loop-low.low + (c.loop-low.high - c.loop-low.low) / 2 < length c.args.sessions.now = omega (arith, c.loop-low-test.true, inv.inside) in
    record {
      order = omega (arith, c.loop-low-test.true);
      inside = inv.inside;
      below = below_mid c.args.sessions.now c.requires (c.loop-low.low + (c.loop-low.high - c.loop-low.low) / 2) c.number_at.result c.args.number low c.number_at.ensures c.if-number_at-number.true;
      above = inv.above;
    }

pub loop-low-preserved : goal.loop-low-preserved
loop-low-preserved c =
    let inv = c.loop-low.invariant in
    let low : c.loop-low.low + (c.loop-low.high - c.loop-low.low) / 2 < length c.args.sessions.now = omega (arith, c.loop-low-test.true, inv.inside) in
    record {
      order = omega arith;
      inside = omega (arith, low);
      below = inv.below;
      above = above_mid c.args.sessions.now c.requires (c.loop-low.low + (c.loop-low.high - c.loop-low.low) / 2) c.number_at.result c.args.number low c.number_at.ensures (omega (arith, c.if-number_at-number.false));
    }
