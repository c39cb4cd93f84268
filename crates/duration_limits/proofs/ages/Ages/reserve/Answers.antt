use Rattle.std.proofs.Common.{◌∙◌, ap}
use Rattle.duration_limits.proofs.Reading.{since-same_rows}
use Rattle.duration_limits.proofs.ages.Ages.reserve.Goals as goal

pub returns-clause-since : goal.returns-clause-since
returns-clause-since c = since-same_rows _ _ (c.reserve.ensures.entries ∙ ap (λ a. a.rows) c.self.view_is) (ap (λ a. a.birth) c.self.view_is)
