use Rattle.std.proofs.Common.{◌≡◌, ◌++◌, flat_map, take}
use Rattle.periodic_expr.specs.Printed.{later_part}
use Rattle.periodic_expr.proofs.printing.push_later_parts.Given as goal

abbrev pub invariant-loop-part : goal.invariant-loop-part
invariant-loop-part l = l.text.items ≡ l.fn.text.items ++ flat_map later_part (take l.part-index l.parts)
