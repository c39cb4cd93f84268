use Rattle.std.proofs.Common.{IfOk, IfErr, subst}
use Rattle.gt_base.specs.Sets.{has}
use Rattle.gt_base.specs.declared.requests.Request.TheVariants.{Activate}
use Rattle.gt_base.specs.declared.requests.Reply.TheVariants.{Active}
use Rattle.session_table.specs.Replies.{AnswersAt, OrRefused}
use Rattle.session_table.specs.Tables.{table_of}
use Rattle.session_table.proofs.tables.Sessions.activate.Goals as goal

pub returns-clause-answer : goal.returns-clause-answer
returns-clause-answer c =
    subst (λ es. IfOk c.activate_over.result (λ r. AnswersAt es c.args.caps.now.items (has c.args.status.now.set) c.args.now (table_of c.args.self.now) c.args.actor (Activate c.args.session c.args.role) (Active r.0)))
    c.in_ok-hierarchy.ensures c.activate_over.ensures.answer

pub returns-clause-table : goal.returns-clause-table
returns-clause-table c = c.activate_over.ensures.table

pub returns-clause-refused : goal.returns-clause-refused
returns-clause-refused c =
    subst (λ es. IfErr c.activate_over.result (λ fault. OrRefused fault (AnswersAt es c.args.caps.now.items (has c.args.status.now.set) c.args.now (table_of c.args.self.now) c.args.actor (Activate c.args.session c.args.role))))
    c.in_ok-hierarchy.ensures c.activate_over.ensures.refused
