use Rattle.std.proofs.Common.{◌≡◌, drop}
use Rattle.calendar_match.specs.Steps.{dense_from}
use Rattle.calendar_match.proofs.picks.is_dense_list.Given as goal

abbrev pub invariant-numbers : goal.invariant-numbers
invariant-numbers l = dense_from l.reach l.most l.next (drop l.m-index l.numbers) ≡ dense_from l.reach l.most 1 l.numbers
