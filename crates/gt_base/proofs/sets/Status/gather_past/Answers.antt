use Rattle.gt_base.proofs.FlagLaws.{none_apart}
use Rattle.gt_base.proofs.sets.Status.gather_past.Goals as goal

pub invariant_of-self : goal.invariant_of-self
invariant_of-self c = none_apart c.in_ok-self-inside.field-0 c.clear.new.self.items c.clear.ensures.items
