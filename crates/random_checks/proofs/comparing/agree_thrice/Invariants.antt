use Rattle.instant_bases.specs.Timelines.{StandsFor}
use Rattle.random_checks.proofs.comparing.agree_thrice.Given as goal

abbrev pub invariant-loop : goal.invariant-loop
invariant-loop l = StandsFor l.g.policy l.jumps.line × StandsFor l.g.policy l.steps.line
