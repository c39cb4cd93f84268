use Rattle.civil_time.proofs.Texts.{none_read}
use Rattle.civil_time.proofs.text.read_civil.Goals as goal

pub returns-clause-none : goal.returns-clause-none
returns-clause-none c = none_read c.found.result c.args.text.now c.found.ensures.none
