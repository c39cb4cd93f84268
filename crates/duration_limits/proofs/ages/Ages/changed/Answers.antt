use Rattle.std.proofs.Common.{◌∙◌, ap, cond, Some}
use Rattle.std.specs.Map.{lookup}
use Rattle.gt_base.specs.Orders.{fluent_eq}
use Rattle.duration_limits.proofs.Reading.{since-changed}
use Rattle.duration_limits.proofs.ages.Ages.changed.Goals as goal

pub returns-clause-since : goal.returns-clause-since
returns-clause-since c =
    since-changed _ _ c.args.f c.args.t (λ g. c.in-Ok.ensures.updates.0 g ∙ ap (λ a. cond (fluent_eq c.args.f g) (Some c.args.t) (lookup (fluent_eq g) a.rows)) c.self.view_is)
    (ap (λ a. a.birth) c.self.view_is)
