use Rattle.policy_lines.proofs.Written.{from_first, one_text, map_ok}
use Rattle.policy_lines.proofs.part_texts.add_items.Goals as goal

pub returns-in_ok-add_item-in-len1-up : goal.returns-in_ok-add_item-in-len1-up
returns-in_ok-add_item-in-len1-up c =
    map_ok c.add_more.result c.add_more.ensures
    (λ e. one_text _ _ _ _ _ _ e c.in_ok-add_item-in-len1-up.ensures (from_first c.args.items.now c.first-item.result c.in-len1-up.len_at_least c.first-item.is))
