use Rattle.std.proofs.Common.{sym, subst}
use Rattle.gt_base.specs.Orders.{fluent_eq}
use Rattle.gt_base.specs.Sets.{has}
use Rattle.indexmap.specs.IndexMap.{get}
use Rattle.priority_conflict.specs.Winning.{IsLeader}
use Rattle.priority_conflict.proofs.WhoLeads.{leads_in}
use Rattle.priority_conflict.proofs.contests.Contest.new.Goals as goal

pub invariant_of-result : goal.invariant_of-result
invariant_of-result c = λ f.
    subst (λ x. IsLeader (has x.events) f (get fluent_eq c.in_ok-leaders.leaders f)) (sym c.in_ok-set.ensures)
    (leads_in c.args.x.now.set c.events.result.now c.events.ensures (get fluent_eq c.in_ok-leaders.leaders) c.in_ok-leaders.ensures f)
