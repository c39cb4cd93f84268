use Rattle.policy_lines.proofs.ItemVerbs.{item_fails}
use Rattle.policy_lines.proofs.parts.event_item.Goals as goal

pub returns-in_default : goal.returns-in_default
returns-in_default c = item_fails c.args.word.now c.args.words.now _ c.requires c.in_default.ensures
