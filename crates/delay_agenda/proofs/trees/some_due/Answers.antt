use Rattle.std.proofs.Common.{sym, ◌∙◌}
use Rattle.delay_agenda.proofs.TreeLaws.{one_due}
use Rattle.delay_agenda.proofs.trees.some_due.Goals as goal

pub returns-in-Some-clause-some : goal.returns-in-Some-clause-some
returns-in-Some-clause-some c = one_due c.args.t c.args.tree.now.keys c.in-Some.p.now _ (sym c.due_in.ensures.due ∙ c.in-Some.ensures.steps)
