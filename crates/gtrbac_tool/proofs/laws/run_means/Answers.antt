use Rattle.gtrbac_tool.proofs.OneEnd.{one_end, runs_mean, long_means}
use Rattle.gtrbac_tool.proofs.SomeEnd.{some_end}
use Rattle.gtrbac_tool.proofs.OneAnswer.{one_answer}
use Rattle.gtrbac_tool.proofs.OnePlay.{runs_are_plays}
use Rattle.gtrbac_tool.proofs.laws.run_means.Goals as goal

pub returns-clause-one : goal.returns-clause-one
returns-clause-one c = one_end

pub returns-clause-some : goal.returns-clause-some
returns-clause-some c = some_end

pub returns-clause-answer : goal.returns-clause-answer
returns-clause-answer c = one_answer

pub returns-clause-runs : goal.returns-clause-runs
returns-clause-runs c = runs_mean

pub returns-clause-long : goal.returns-clause-long
returns-clause-long c = long_means

pub returns-clause-plays : goal.returns-clause-plays
returns-clause-plays c = runs_are_plays
