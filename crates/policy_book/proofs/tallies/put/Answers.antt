use Rattle.std.proofs.Common.{ap, sym, ◌∙◌}
use Rattle.policy_words.specs.Making.{with_new}
use Rattle.policy_words.specs.LinesTogether.{same_claim}
use Rattle.policy_book.proofs.SameClaims.{pushed}
use Rattle.policy_book.proofs.tallies.put.Goals as goal

pub returns-in_ok-insert : goal.returns-in_ok-insert
returns-in_ok-insert c =
    c.in_ok-insert.ensures.keys ∙ pushed c.args.claims.now.keys c.in-Some.claim ∙ ap (λ o. with_new same_claim o c.args.claims.now.keys) (sym c.in-Some.is)
