use Rattle.std.proofs.Common.{◌≡◌, ◌++◌, flat_map, take}
use Rattle.periodic_expr.specs.Printed.{later_number}
use Rattle.periodic_expr.proofs.printing.push_later_numbers.Given as goal

abbrev pub invariant-loop-n : goal.invariant-loop-n
invariant-loop-n l = l.text.items ≡ l.fn.text.items ++ flat_map later_number (take l.n-index l.numbers)
