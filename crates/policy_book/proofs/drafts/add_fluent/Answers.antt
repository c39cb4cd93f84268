use Rattle.std.proofs.Common.{ap, sym, ◌∙◌}
use Rattle.gtrbac_model.specs.Same.{same_fluent}
use Rattle.policy_words.specs.Making.{with_new}
use Rattle.policy_book.proofs.Drafting.{fluent_added}
use Rattle.policy_book.proofs.drafts.add_fluent.Goals as goal

pub returns-in_ok-insert : goal.returns-in_ok-insert
returns-in_ok-insert c =
    c.in_ok-insert.ensures.keys ∙ fluent_added c.args.fluents.now.keys c.in-Some.fluent ∙ ap (λ o. with_new same_fluent o c.args.fluents.now.keys) (sym c.in-Some.is)
