use Rattle.std.proofs.Common.{ap, ◌++◌, ◌∙◌}
use Rattle.gt_base.specs.Sets.{set_of}
use Rattle.policy_words.specs.Making.{edges_from}
use Rattle.policy_book.proofs.Openings.{reordered_set}
use Rattle.policy_book.proofs.finishing.opening_of.Goals as goal

pub returns : goal.returns
returns c =
    let linked = edges_from 0 c.args.linked in
    c.in_ok-status.ensures ∙ ap (λ fs. set_of (linked ++ fs)) c.as_slice.ensures.keys
    ∙ reordered_set linked c.args.fluents.now.keys c.sort_by_key.new.self.keys c.sort_by_key.ensures.reordered.2
