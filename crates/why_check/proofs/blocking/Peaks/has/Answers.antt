use Rattle.std.proofs.Common.{◌≡◌, Some, sym, ◌∙◌, ap}
use Rattle.gt_base.specs.Happening.{HappenedView}
use Rattle.gt_base.specs.Sets.{has}
use Rattle.why_check.specs.Peaks.{peak_in, sides_in, side}
use Rattle.why_check.proofs.Peaking.{stands_there}
use Rattle.why_check.proofs.blocking.Peaks.has.Goals as goal

pub returns-then-is_peak : goal.returns-then-is_peak
returns-then-is_peak c =
    let e = c.args.e in
    let peak = peak_in (sides_in c.self.inside.sides) in
    let here : peak e.event ≡ Some e.prio =
    sym (c.side-peak.ensures ∙ ap (side e.event.on) c.of.ensures) ∙ c.is_peak.ensures c.if-is_peak.true ∙ ap (λ p. Some p) c.get.ensures.value in
    sym (stands_there c.self.inside.set.set peak c.self.invariant e.event e.prio here) ∙ ap (λ (y : HappenedView). has y.events e) c.self.view_is
