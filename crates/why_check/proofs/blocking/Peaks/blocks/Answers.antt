use Rattle.std.proofs.Common.{not, ◌∙◌, ap}
use Rattle.gtrbac_model.specs.Conflict.{blocked}
use Rattle.why_check.specs.Peaks.{peak_in, sides_in, side, beaten_from}
use Rattle.why_check.proofs.Peaking.{blocked_by}
use Rattle.why_check.proofs.blocking.Peaks.blocks.Goals as goal

pub returns : goal.returns
returns c =
    let e = c.args.e.now in
    let against = c.side-against.ensures ∙ ap (side (not e.event.on)) c.of.ensures in
    c.is_beaten.ensures
    ∙ (λ i. beaten_from e.event.on (c.get.ensures.value i) (against i))
    ∙ blocked_by c.self.inside.set.set (peak_in (sides_in c.self.inside.sides)) c.self.invariant e
    ∙ ap (λ x. blocked x e) c.self.view_is
