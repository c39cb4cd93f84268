use Rattle.std.proofs.Common.{subst}
use Rattle.session_table.specs.Tables.{table_of}
use Rattle.time_engine.specs.Histories.{Follows}
use Rattle.core_machine.specs.Books.{BookView, HasWaiting, model_in}
use Rattle.core_machine.proofs.Asks.{waiting_is}
use Rattle.core_machine.proofs.books.Book.timeline.Goals as goal

pub returns-clause-follows : goal.returns-clause-follows
returns-clause-follows c = subst (λ (b : BookView). Follows b.named.policy b.birth b.entries (model_in b) c.self.inside.state.line.line) c.self.view_is c.self.invariant.follows

pub returns-clause-waiting : goal.returns-clause-waiting
returns-clause-waiting c =
    let s = c.self.inside.state in
    subst (λ (b : BookView). HasWaiting b s.line.line) c.self.view_is (waiting_is s.ground.policy s.birth s.entries.items s.line.line (table_of s.table) s.table.charged_to c.self.invariant)
