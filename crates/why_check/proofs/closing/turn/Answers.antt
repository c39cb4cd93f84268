use Rattle.std.proofs.Common.{cond, ◌∙◌, ap}
use Rattle.std.specs.List.{list_any}
use Rattle.gt_base.specs.Happening.{HappenedView}
use Rattle.gt_base.specs.Sets.{has, members}
use Rattle.gtrbac_model.specs.Conflict.{after}
use Rattle.gtrbac_model.specs.Same.{same_fluent}
use Rattle.gtrbac_model.specs.Status.{differ}
use Rattle.why_check.proofs.Turned.{turned_all}
use Rattle.why_check.proofs.closing.turn.Goals as goal

pub returns-clause-status : goal.returns-clause-status
returns-clause-status c = λ f.
    let x = c.args.x.now in
    let s = c.args.status.now.set in
    c.turn_all.ensures.status f
    ∙ (λ i. cond (list_any (λ o. same_fluent o.event.fluent f) ((c.events-events.ensures ∙ ap (λ (y : HappenedView). members y.events) c.set.ensures) i)) (after x (has (c.in_ok-reserve-2.ensures.set i)) f) (has (c.in_ok-reserve-2.ensures.set i) f))
    ∙ turned_all x (has s) f

pub returns-clause-since : goal.returns-clause-since
returns-clause-since c = λ f.
    c.turn_all.ensures.since f
    ∙ (λ i. cond (differ (has c.turn_all.new.status.set f) (has (c.in_ok-reserve-2.ensures.set i) f)) c.args.at (c.in_ok-reserve.ensures.since f i))
