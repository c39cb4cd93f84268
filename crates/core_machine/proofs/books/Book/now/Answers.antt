use Rattle.std.proofs.Common.{ap, ◌∙◌}
use Rattle.core_machine.specs.Books.{BookView, now_in}
use Rattle.core_machine.proofs.books.Book.now.Goals as goal

pub returns : goal.returns
returns c = c.now.ensures ∙ c.self.invariant.follows.now ∙ ap (λ (b : BookView). now_in b) c.self.view_is
