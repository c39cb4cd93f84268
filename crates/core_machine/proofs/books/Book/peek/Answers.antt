use Rattle.std.proofs.Common.{◌≡◌, subst}
use Rattle.std.specs.Prelude.{IfOk}
use Rattle.std.proofs.lemmas.Result.{IfOk-weaker}
use Rattle.core_machine.specs.Books.{BookView, reply_in, IsReplyAmongLooks}
use Rattle.core_machine.proofs.AmongLooks.{among_looks}
use Rattle.core_machine.proofs.books.Book.peek.Goals as goal

pub returns-clause-now : goal.returns-clause-now
returns-clause-now c = subst (λ (b : BookView). IfOk c.look.result (λ reply. reply ≡ reply_in b c.args.actor c.args.request)) c.self.view_is c.look.ensures

pub returns-clause-alike : goal.returns-clause-alike
returns-clause-alike c =
    IfOk-weaker c.look.result (λ reply. reply ≡ reply_in c.args.self.now c.args.actor c.args.request) (λ reply. IsReplyAmongLooks c.args.self.now c.args.actor c.args.request reply)
    (λ reply is. among_looks c.args.self.now c.args.actor c.args.request reply c.keeps.ensures.only is)
    (subst (λ (b : BookView). IfOk c.look.result (λ reply. reply ≡ reply_in b c.args.actor c.args.request)) c.self.view_is c.look.ensures)
