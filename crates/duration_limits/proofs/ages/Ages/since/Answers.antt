use Rattle.std.proofs.Common.{◌∙◌, ap}
use Rattle.std.specs.Prelude.{unwrap_or}
use Rattle.duration_limits.specs.Since.{since_in}
use Rattle.duration_limits.proofs.Reading.{since-read}
use Rattle.duration_limits.proofs.ages.Ages.since.Goals as goal

pub returns : goal.returns
returns c =
    c.unwrap_or.ensures ∙ ap (λ o. unwrap_or o c.self.inside.birth) (c.copied.ensures ∙ c.get.ensures.value)
    ∙ since-read _ c.args.f ∙ ap (λ a. since_in a c.args.f) c.self.view_is
