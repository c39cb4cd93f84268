use Rattle.std.proofs.Common.{◌∙◌, ap}
use Rattle.gt_base.specs.Happening.{HappenedView}
use Rattle.why_check.proofs.Shown.{filled_events, filled_signals}
use Rattle.why_check.proofs.showing.set_of_lists.Goals as goal

pub returns-clause-events : goal.returns-clause-events
returns-clause-events c =
    c.add_signals.ensures.events
    ∙ ap (λ (x : HappenedView). x.events) c.in_ok-reserve-2.ensures.set
    ∙ filled_events _ _ _ _ _ (ap (λ (x : HappenedView). x.events) (c.in_ok-reserve.ensures.set ∙ c.new-set.ensures)) c.deref.ensures.value c.in_ok-events.ensures c.add_events.ensures.events

pub returns-clause-signals : goal.returns-clause-signals
returns-clause-signals c =
    filled_signals _ _ _ _ _
    (ap (λ (x : HappenedView). x.signals) c.in_ok-reserve-2.ensures.set ∙ c.add_events.ensures.signals ∙ ap (λ (x : HappenedView). x.signals) (c.in_ok-reserve.ensures.set ∙ c.new-set.ensures)) c.deref-2.ensures.value c.in_ok-signals.ensures c.add_signals.ensures.signals
