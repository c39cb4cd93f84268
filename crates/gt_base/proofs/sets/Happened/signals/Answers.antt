use Rattle.gt_base.specs.Orders.{signal_cmp}
use Rattle.gt_base.proofs.SetLaws.{members-set_of_rising}
use Rattle.gt_base.proofs.sets.Happened.signals.Goals as goal

pub returns : goal.returns
returns c = rw (← c.self.view_is, members-set_of_rising signal_cmp _ c.self.invariant.1) c.deref.ensures.value
