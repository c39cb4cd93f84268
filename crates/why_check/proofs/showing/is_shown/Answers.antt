use Rattle.std.proofs.Common.{◌≡◌, [], List, true, false, refl, sym, ◌∙◌, ap}
use Rattle.gt_base.specs.Happening.{HappenedView}
use Rattle.gt_base.specs.Sets.{has}
use Rattle.gt_base.specs.declared.events.Prioritised.{Prioritised}
use Rattle.gtrbac_model.specs.Instant.{grounded_after}
use Rattle.why_check.specs.Certificates.{Listed}
use Rattle.why_check.proofs.Shown.{shown_by, not_by_signals, not_by_closed}
use Rattle.why_check.proofs.showing.is_shown.Goals as goal

pub returns-then-not-same_signals : goal.returns-then-not-same_signals
returns-then-not-same_signals c =
    not_by_signals c.args.rules.now c.args.base.now.set (has c.args.before.now.set) c.args.listing.now c.args.x.now c.requires (λ e.
    let so : c.same_signals.result ≡ true = c.same_signals.ensures.1 (ap (λ (z : HappenedView). z.signals) c.set.ensures ∙ e) in
    let not_so : c.same_signals.result ≡ false = c.if-not-same_signals.true in
    cc) false refl

pub returns-then-not-is_closed : goal.returns-then-not-is_closed
returns-then-not-is_closed c = not_by_closed c.args.rules.now c.args.base.now.set (has c.args.before.now.set) c.args.listing.now c.args.x.now c.requires (sym c.is_closed.ensures ∙ c.if-not-is_closed.true) false refl

pub returns : goal.returns
returns c =
    let rules = c.args.rules.now in
    let base = c.args.base.now.set in
    let s = has c.args.before.now.set in
    shown_by rules base s c.args.listing.now c.args.x.now c.requires
    (ap (λ (z : HappenedView). z.signals) (sym c.set.ensures) ∙ c.same_signals.ensures.0 c.if-not-same_signals.false)
    (sym c.is_closed.ensures ∙ c.if-not-is_closed.false) c.in_ok-supported.supported
    (c.in_ok-supported.ensures ∙ ap (λ (xs : List Prioritised). grounded_after rules base s c.args.x.now [] xs) (c.as_slice-order.ensures ∙ ap (λ (l : Listed). l.events) c.listing.view_is))
