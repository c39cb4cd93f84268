use Rattle.gt_base.specs.Orders.{prioritised_cmp}
use Rattle.gt_base.proofs.SetLaws.{members-set_of_rising}
use Rattle.gt_base.proofs.sets.Happened.events.Goals as goal

pub returns : goal.returns
returns c = rw (← c.self.view_is, members-set_of_rising prioritised_cmp _ c.self.invariant.0) c.deref.ensures.value
