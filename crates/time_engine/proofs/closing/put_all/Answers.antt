use Rattle.std.proofs.Common.{arith}
use Rattle.delay_agenda.proofs.PendingLaws.{pending_cmp_total}
use Rattle.instant_bases.proofs.Joining.{joined_more}
use Rattle.time_engine.proofs.closing.put_all.Goals as goal

pub loop-q-preserved : goal.loop-q-preserved
loop-q-preserved c = record {
  room = omega arith;
  pairs = λ q. joined_more pending_cmp_total c.loop-q.pending.set c.put.new.self.set c.args.pairs.now c.loop-q.q-index c.q-item.result q _ (rw (← c.q-item.is) c.put.ensures.set) c.loop-q-test.true (c.loop-q.invariant.pairs q);
}
