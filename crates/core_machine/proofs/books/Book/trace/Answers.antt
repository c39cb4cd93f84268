use Rattle.std.proofs.Common.{ℕ, subst}
use Rattle.time_engine.specs.Traces.{AreSome, Ascends}
use Rattle.core_machine.specs.Books.{BookView, HasBases, model_in}
use Rattle.core_machine.proofs.books.Book.trace.Goals as goal

pub returns-clause-bases : goal.returns-clause-bases
returns-clause-bases c = subst (λ (b : BookView). HasBases b.named.policy b.birth (model_in b) b.entries b.trace) c.self.view_is c.self.invariant.bases

pub returns-clause-ascends : goal.returns-clause-ascends
returns-clause-ascends c =
    subst (λ (b : BookView). Ascends b.birth b.trace) c.self.view_is (subst (λ (t : ℕ). Ascends t c.self.inside.state.line.line.trace) c.self.invariant.follows.born c.keeps.ensures.ascends)

pub returns-clause-some : goal.returns-clause-some
returns-clause-some c = subst (λ (b : BookView). AreSome b.trace) c.self.view_is c.keeps.ensures.some
