use Rattle.std.proofs.Common.{List, ◌∙◌}
use Rattle.gtrbac_model.specs.Period.{Period}
use Rattle.policy_words.specs.Making.{with_item}
use Rattle.policy_book.specs.Seen.{seen_names}
use Rattle.policy_book.proofs.Drafting.{same_draft}
use Rattle.policy_book.proofs.drafts.Draft.add.Goals as goal

pub returns : goal.returns
returns c =
    let d = c.in_ok-add_numbers.ensures in
    same_draft (◌∙◌ {A = List Period} c.in_ok-add_item.ensures (λ i. with_item (c.period_in.ensures (seen_names c.args.names.now) i) (d i).periods))
    (λ i. (d i).limits) (λ i. (d i).edges) (λ i. (d i).caps) (λ i. (d i).admins) (λ i. (d i).on_at_first) (λ i. (d i).entries) (λ i. (d i).triggers)
