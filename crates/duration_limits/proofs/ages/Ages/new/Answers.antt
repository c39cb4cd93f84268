use Rattle.duration_limits.proofs.Reading.{since-no_rows}
use Rattle.duration_limits.proofs.ages.Ages.new.Goals as goal

pub returns-clause-since : goal.returns-clause-since
returns-clause-since c = since-no_rows _ c.new.ensures.empty
