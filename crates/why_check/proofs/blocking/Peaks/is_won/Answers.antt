use Rattle.std.proofs.Common.{not, refl, ◌∙◌, ap}
use Rattle.gtrbac_model.specs.Conflict.{won}
use Rattle.why_check.specs.Peaks.{peak_in, sides_in, side, wins_from}
use Rattle.why_check.proofs.Peaking.{won_by}
use Rattle.why_check.proofs.blocking.Peaks.is_won.Goals as goal

pub returns : goal.returns
returns c =
    let e = c.args.e in
    c.wins.ensures ∙ ap (λ o. wins_from e.on (side e.on o) (side (not e.on) o)) c.of.ensures
    ∙ won_by c.self.inside.set.set (peak_in (sides_in c.self.inside.sides)) c.self.invariant e _ refl
    ∙ ap (λ x. won x e) c.self.view_is
