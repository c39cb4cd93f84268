use Rattle.std.proofs.Common.{ap}
use Rattle.gt_base.specs.Orders.{fluent_eq}
use Rattle.gt_base.specs.Sets.{has}
use Rattle.indexmap.specs.IndexMap.{get}
use Rattle.priority_conflict.proofs.WhoLeads.{all_lead, joins}
use Rattle.priority_conflict.proofs.contests.Contest.add.Goals as goal

pub invariant_of-self-2 : goal.invariant_of-self-2
invariant_of-self-2 c =
    all_lead (has c.self.inside.set.set.events) (has c.add.new.self.set.events) c.args.p
    (joins c.self.inside.set.set.events c.reserve.new.self.set.events c.add.new.self.set.events c.args.p (ap (λ x. x.events) c.in_ok-reserve.ensures.set) c.add.ensures.events)
    (get fluent_eq c.self.inside.leaders) (get fluent_eq c.note.new.leaders) c.in_ok-note.ensures.ok c.self.invariant
