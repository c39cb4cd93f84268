use Rattle.std.proofs.Common.{ℕ, subst}
use Rattle.session_table.specs.Tables.{NotBefore, table_of}
use Rattle.core_machine.specs.Books.{BookView, IsTableIn, now_in}
use Rattle.core_machine.proofs.Asks.{table_is}
use Rattle.core_machine.proofs.books.Book.sessions.Goals as goal

pub returns-clause-table : goal.returns-clause-table
returns-clause-table c =
    let s = c.self.inside.state in
    subst (λ (b : BookView). IsTableIn b (table_of s.table)) c.self.view_is (table_is s.ground.policy s.birth s.entries.items s.line.line (table_of s.table) s.table.charged_to c.self.invariant)

pub returns-clause-charged : goal.returns-clause-charged
returns-clause-charged c =
    let s = c.self.inside.state in
    subst (λ (b : BookView). NotBefore s.table.charged_to (now_in b)) c.self.view_is (subst (λ (t : ℕ). NotBefore s.table.charged_to t) c.self.invariant.follows.now c.self.invariant.charged)
