use Rattle.std.proofs.Common.{cond, ◌∙◌, ap}
use Rattle.std.specs.List.{list_any}
use Rattle.gt_base.specs.Happening.{HappenedView}
use Rattle.gt_base.specs.Sets.{has, members}
use Rattle.gtrbac_model.specs.Conflict.{after}
use Rattle.gtrbac_model.specs.Same.{same_fluent}
use Rattle.why_check.proofs.Turned.{turned_all}
use Rattle.why_check.proofs.turning.turn.Goals as goal

pub returns : goal.returns
returns c = λ f.
    c.turn_all.ensures f
    ∙ (λ i. cond (list_any (λ o. same_fluent o.event.fluent f) ((c.events-events.ensures ∙ ap (λ (y : HappenedView). members y.events) c.set.ensures) i)) (after c.args.x.now (has (c.in_ok-reserve.ensures.set i)) f) (has (c.in_ok-reserve.ensures.set i) f))
    ∙ turned_all c.args.x.now (has c.args.status.now.set) f
