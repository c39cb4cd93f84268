use Rattle.std.proofs.Common.{◌++◌, flat_map, ap, ◌∙◌}
use Rattle.std.proofs.lemmas.List.{take_all}
use Rattle.periodic_expr.specs.Printed.{later_part}
use Rattle.gt_base.proofs.Loops.{flat_mapped_more}
use Rattle.periodic_expr.proofs.printing.push_later_parts.Goals as goal

pub loop-part-preserved : goal.loop-part-preserved
loop-part-preserved c =
    flat_mapped_more later_part c.args.parts.now c.loop-part.part-index c.part-item.result c.args.text.now.items c.loop-part.text.items c.push_later_part.new.text.items c.loop-part-test.true
    c.loop-part.invariant (c.in_ok-push_later_part.ensures ∙ ap (λ p. c.loop-part.text.items ++ later_part p) c.part-item.is)

pub returns : goal.returns
returns c = c.loop-part.invariant ∙ ap (λ xs. c.args.text.now.items ++ flat_map later_part xs) (take_all c.loop-part.part-index c.args.parts.now c.loop-part-test.false)
