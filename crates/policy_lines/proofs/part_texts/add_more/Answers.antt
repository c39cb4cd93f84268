use Rattle.std.proofs.Common.{◌++◌, flat_map, ap, ◌∙◌}
use Rattle.std.proofs.lemmas.List.{take_all}
use Rattle.policy_lines.specs.Spaces.{linked_item}
use Rattle.policy_lines.proofs.Written.{linked_more}
use Rattle.policy_lines.proofs.part_texts.add_more.Goals as goal

pub returns : goal.returns
returns c =
    c.loop-item.invariant
    ∙ ap (λ is. c.args.text.now.items ++ flat_map linked_item is) (take_all c.loop-item.item-index c.args.items.now c.loop-item-test.false)

pub loop-item-preserved : goal.loop-item-preserved
loop-item-preserved c =
    linked_more c.args.text.now.items c.loop-item.text.items c.add_linked.new.text.items c.args.items.now c.loop-item.item-index c.item-item.result c.loop-item-test.true c.item-item.is
    c.in_ok-add_linked.ensures c.loop-item.invariant
