use Rattle.std.proofs.Common.{◌≡◌, take}
use Rattle.policy_book.proofs.copying.copied_periods.Given as goal

abbrev pub invariant-loop-period : goal.invariant-loop-period
invariant-loop-period l = l.copies.items ≡ take l.period-index l.periods
