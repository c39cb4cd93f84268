use Rattle.std.proofs.Common.{◌≡◌, length}
use Rattle.gt_text.specs.Numbers.{count_to}
use Rattle.gt_text.proofs.numbers.counted_to.Given as goal

abbrev pub invariant-loop-digits : goal.invariant-loop-digits
invariant-loop-digits l = record { count : count_to l.most l.n l.digits ≡ count_to l.most 0 l.fn.digits }

abbrev pub decreases-loop-digits : goal.decreases-loop-digits
decreases-loop-digits l = length l.digits
