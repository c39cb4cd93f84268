use Rattle.std.proofs.Common.{◌||◌, ◌∙◌, ap}
use Rattle.std.specs.List.{list_any}
use Rattle.std.specs.Ordering.{eq_by_cmp}
use Rattle.gt_base.specs.Happening.{HappenedView}
use Rattle.gt_base.specs.Orders.{prioritised_cmp}
use Rattle.gt_base.specs.Sets.{has}
use Rattle.gt_base.proofs.SetLaws.{has-none}
use Rattle.time_engine.proofs.dues.raised.Goals as goal

pub returns-clause-events : goal.returns-clause-events
returns-clause-events c = λ e.
    c.add_events.ensures.events e
    ∙ (λ i. (ap (λ (x : HappenedView). has x.events e) (c.in_ok-reserve.ensures.set ∙ c.new-base.ensures) ∙ has-none prioritised_cmp e) i || list_any (eq_by_cmp prioritised_cmp e) ((c.deref.ensures.value ∙ c.in_ok-raised.ensures) i))
