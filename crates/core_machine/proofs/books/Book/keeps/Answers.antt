use Rattle.std.proofs.Common.{subst}
use Rattle.gtrbac_model.specs.Safety.{IsSafe}
use Rattle.policy_words.specs.Valid.{IsWellFormed}
use Rattle.core_machine.specs.Books.{BookView, HasOnlyModel, IsBook}
use Rattle.core_machine.proofs.Births.{only_one}
use Rattle.core_machine.proofs.books.Book.keeps.Goals as goal

pub returns-clause-kept : goal.returns-clause-kept
returns-clause-kept c =
    subst IsBook c.self.view_is
    (record {
      legal = c.self.invariant.legal;
      named = c.self.invariant.named;
      well = subst IsWellFormed c.policy.ensures c.keeps.ensures;
      birth = c.keeps-2.ensures;
      short = c.self.invariant.short;
    })

pub returns-clause-only : goal.returns-clause-only
returns-clause-only c =
    let s = c.self.inside.state in
    subst HasOnlyModel c.self.view_is (only_one s.ground.policy c.self.invariant.safe s.birth s.entries.items _ c.self.invariant.legal)

pub returns-clause-safe : goal.returns-clause-safe
returns-clause-safe c = subst (λ (b : BookView). IsSafe b.named.policy.triggers) c.self.view_is c.self.invariant.safe
