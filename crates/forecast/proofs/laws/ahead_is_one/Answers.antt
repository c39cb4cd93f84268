use Rattle.forecast.proofs.Answering as answering
use Rattle.forecast.proofs.Existing as existing
use Rattle.forecast.proofs.laws.ahead_is_one.Goals as goal

pub returns-clause-one : goal.returns-clause-one
returns-clause-one c = λ p safe birth h upto. existing.ahead_is_one p safe birth h upto

pub returns-clause-change : goal.returns-clause-change
returns-clause-change c = λ p safe birth h f upto a b of_a of_b. answering.change_is_one p safe birth h f upto a b of_a of_b
