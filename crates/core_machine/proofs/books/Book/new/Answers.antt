use Rattle.std.proofs.Common.{sym, subst}
use Rattle.gtrbac_model.specs.Safety.{IsSafe}
use Rattle.policy_words.specs.Naming.{NamedPolicy}
use Rattle.core_machine.proofs.books.Book.new.Goals as goal

pub on-requires : goal.on-requires
on-requires c = subst (λ (g : NamedPolicy). IsSafe g.policy.triggers) (sym c.in-Ok.ensures.ok) c.keeps.ensures
