use Rattle.std.proofs.Common.{◌≡◌, rules, subst}
use Rattle.core_machine.specs.Books.{BookView, HasOnlyModel}
use Rattle.core_machine.proofs.ledgers.Ledger.keeps.Goals as goal

pub returns-clause-only : goal.returns-clause-only
returns-clause-only c =
    let is : c.deref.result.now ≡ c.args.self.now = search rules in
    subst (λ (b : BookView). HasOnlyModel b) is c.keeps.ensures.only
