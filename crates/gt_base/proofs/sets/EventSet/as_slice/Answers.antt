use Rattle.gt_base.specs.Orders.{event_cmp}
use Rattle.gt_base.proofs.SetLaws.{members-set_of_rising}
use Rattle.gt_base.proofs.sets.EventSet.as_slice.Goals as goal

pub returns : goal.returns
returns c = rw (← c.self.view_is, members-set_of_rising event_cmp _ c.self.invariant) c.deref.ensures.value
