use Rattle.std.proofs.Common.{◌≡◌, true, sym, ◌∙◌, ap}
use Rattle.gt_base.specs.Sets.{has}
use Rattle.gtrbac_model.specs.Status.{differ}
use Rattle.duration_limits.specs.Since.{since_in}
use Rattle.why_check.proofs.Turned.{turned_so, noted_so}
use Rattle.why_check.proofs.closing.turn_fluent.Goals as goal

pub returns-then-are_apart-clause-status : goal.returns-then-are_apart-clause-status
returns-then-are_apart-clause-status c = λ g.
    turned_so c.args.x.now c.args.status.now.set c.set.new.self.set c.args.f g c.is_on_after-on.result c.is_on_after-on.ensures c.set.ensures.set

pub returns-then-are_apart-clause-since : goal.returns-then-are_apart-clause-since
returns-then-are_apart-clause-since c = λ g.
    let apart : differ c.is_on_after-on.result (has c.args.status.now.set c.args.f) ≡ true =
    ap (differ c.is_on_after-on.result) (sym c.is_on.ensures) ∙ sym c.are_apart.ensures ∙ c.if-are_apart.true in
    c.changed.ensures.since g
    ∙ noted_so c.args.status.now.set c.set.new.self.set c.args.f g c.is_on_after-on.result c.args.at (since_in c.args.ages.now g) apart c.set.ensures.set
