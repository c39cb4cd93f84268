use Rattle.std.proofs.Common.{◌∙◌, ap}
use Rattle.std.proofs.lemmas.List.Elements.{same_from_all_zip}
use Rattle.duration_limits.proofs.Reading.{since-same_rows}
use Rattle.duration_limits.proofs.ages.Ages.copied.Goals as goal

pub returns-clause-rows : goal.returns-clause-rows
returns-clause-rows c = same_from_all_zip _ _ _ c.in_ok-clone.ensures.cases (λ x y r i. (r.0 i, r.1 i)) ∙ ap (λ a. a.rows) c.self.view_is

pub returns-clause-since : goal.returns-clause-since
returns-clause-since c =
    since-same_rows _ _ (same_from_all_zip _ _ _ c.in_ok-clone.ensures.cases (λ x y r i. (r.0 i, r.1 i)) ∙ ap (λ a. a.rows) c.self.view_is)
    (ap (λ a. a.birth) c.self.view_is)
