use Rattle.why_check.proofs.Priorities.{answers_are_low, priorities_are_low}
use Rattle.why_check.proofs.laws.priorities_are_low.Goals as goal

pub returns-clause-sets : goal.returns-clause-sets
returns-clause-sets c = priorities_are_low

pub returns-clause-answers : goal.returns-clause-answers
returns-clause-answers c = answers_are_low
