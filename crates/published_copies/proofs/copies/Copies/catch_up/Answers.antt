use Rattle.std.proofs.Common.{[], append-nil, ◌∙◌}
use Rattle.published_copies.proofs.Growing.{none_lost}
use Rattle.published_copies.proofs.copies.Copies.catch_up.Goals as goal

pub returns-in-Ok-clause-front : goal.returns-in-Ok-clause-front
returns-in-Ok-clause-front g c =
    let kept = none_lost c.send_rest.new.self c.publish.result.0 c.publish.result.1 c.publish.ensures in
    ([], append-nil _ ∙ kept ∙ c.in-Ok.ensures.sent)
