use Rattle.std.proofs.Common.{◌||◌, ◌∙◌, ap}
use Rattle.gt_base.specs.Happening.{HappenedView}
use Rattle.gt_base.specs.Orders.{prioritised_cmp}
use Rattle.gt_base.specs.Sets.{has}
use Rattle.gt_base.proofs.SetLaws.{has-none}
use Rattle.gtrbac_tool.specs.Joined.{is_last}
use Rattle.gtrbac_tool.proofs.joined.Joined.new.Goals as goal

pub returns : goal.returns
returns c = λ e i.
    is_last (c.in_ok-last.ensures e.event i) e.prio
    || (ap (λ (z : HappenedView). has z.events e) c.new.ensures ∙ has-none prioritised_cmp e) i
