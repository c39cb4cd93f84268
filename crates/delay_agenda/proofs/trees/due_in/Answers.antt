use Rattle.std.proofs.Common.{◌∙◌}
use Rattle.delay_agenda.proofs.TreeLaws.{between}
use Rattle.delay_agenda.proofs.trees.due_in.Goals as goal

pub returns-clause-due : goal.returns-clause-due
returns-clause-due c = c.range.ensures.between tt ∙ rw c.first_at.ensures (between c.args.t c.end_at.result c.end_at.ensures.behind c.end_at.ensures.before c.args.tree.now.keys)
