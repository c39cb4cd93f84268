use Rattle.std.proofs.Common.{◌≡◌, ◌++◌, flat_map, take}
use Rattle.policy_lines.specs.Spaces.{linked_item}
use Rattle.policy_lines.proofs.part_texts.add_more.Given as goal

abbrev pub invariant-loop-item : goal.invariant-loop-item
invariant-loop-item l = l.text.items ≡ l.fn.text.items ++ flat_map linked_item (take l.item-index l.items)
