use Rattle.request_text.proofs.Named.{all_named}
use Rattle.request_text.proofs.reading.read_line.Goals as goal

pub returns-clause-named : goal.returns-clause-named
returns-clause-named c = all_named c.args.p.now c.keeps.ensures c.args.opening c.args.script c.args.line.now c.line_said.result c.requires c.line_said.ensures
