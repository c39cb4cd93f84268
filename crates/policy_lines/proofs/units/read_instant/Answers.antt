use Rattle.policy_lines.proofs.Instants.{civil_reads}
use Rattle.policy_lines.proofs.units.read_instant.Goals as goal

pub returns : goal.returns
returns c = civil_reads c.args.word.now c.read_civil.result c.read_civil.ensures.some c.read_civil.ensures.none
