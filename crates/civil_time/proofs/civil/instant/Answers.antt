use Rattle.civil_time.proofs.OneCivil.{instant_is}
use Rattle.civil_time.proofs.civil.instant.Goals as goal

pub returns-clause-model : goal.returns-clause-model
returns-clause-model c = instant_is c.found.result c.args.c c.found.ensures.stands c.found.ensures.bound
