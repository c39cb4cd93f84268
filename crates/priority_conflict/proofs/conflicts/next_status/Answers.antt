use Rattle.std.proofs.Common.{arith, ◌∙◌}
use Rattle.priority_conflict.proofs.OverLaws.{over_step, over_all}
use Rattle.priority_conflict.proofs.conflicts.next_status.Goals as goal

pub loop-e-preserved : goal.loop-e-preserved
loop-e-preserved c = record {
  room = omega arith;
  spare = omega arith;
  status = λ f.
      over_step c.args.won.now.set c.as_slice-e-items.result.now c.loop-e.s.set _ c.loop-e.e-index _ f _ c.as_slice-e-items.ensures c.requires.apart c.loop-e-test.true c.set.ensures.set (c.loop-e.invariant.status f);
}

pub returns-clause-status : goal.returns-clause-status
returns-clause-status c = λ f. c.loop-e.invariant.status f ∙ over_all c.args.won.now.set c.as_slice-e-items.result.now c.loop-e.e-index f _ c.as_slice-e-items.ensures c.loop-e-test.false
