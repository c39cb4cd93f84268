use Rattle.std.proofs.Common.{◌++◌, flat_map, ap, ◌∙◌}
use Rattle.std.proofs.lemmas.List.{take_all}
use Rattle.periodic_expr.specs.Printed.{later_number}
use Rattle.gt_base.proofs.Loops.{flat_mapped_more}
use Rattle.periodic_expr.proofs.printing.push_later_numbers.Goals as goal

pub loop-n-preserved : goal.loop-n-preserved
loop-n-preserved c =
    flat_mapped_more later_number c.args.numbers.now c.loop-n.n-index 0 c.args.text.now.items c.loop-n.text.items c.push_later_number.new.text.items c.loop-n-test.true c.loop-n.invariant
    c.in_ok-push_later_number.ensures

pub returns : goal.returns
returns c = c.loop-n.invariant ∙ ap (λ xs. c.args.text.now.items ++ flat_map later_number xs) (take_all c.loop-n.n-index c.args.numbers.now c.loop-n-test.false)
