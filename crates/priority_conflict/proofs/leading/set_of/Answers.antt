use Rattle.std.proofs.Common.{arith, ap, ◌∙◌}
use Rattle.gt_base.specs.Sets.{has}
use Rattle.gt_base.specs.Orders.{event_cmp}
use Rattle.gt_base.proofs.SetLaws.{has-none}
use Rattle.priority_conflict.proofs.WhoLeads.{listed_more}
use Rattle.priority_conflict.proofs.leading.set_of.Goals as goal

pub loop-e-init : goal.loop-e-init
loop-e-init c = record {
  room = omega (arith, c.in_ok-reserve.ensures.room);
  listed = λ e. ap (λ s. has s e) (c.in_ok-reserve.ensures.set ∙ c.new-set.ensures) ∙ has-none event_cmp e;
}

pub loop-e-preserved : goal.loop-e-preserved
loop-e-preserved c = record {
  room = omega arith;
  listed = λ e. listed_more c.loop-e.set.set _ c.args.events.now c.loop-e.e-index _ e c.add.ensures.set c.loop-e-test.true (c.loop-e.invariant.listed e);
}
