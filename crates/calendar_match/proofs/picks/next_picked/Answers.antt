use Rattle.calendar_match.proofs.Numbers.{next_some, next_none}
use Rattle.calendar_match.proofs.picks.next_picked.Goals as goal

pub returns-in-Some-clause-some : goal.returns-in-Some-clause-some
returns-in-Some-clause-some c =
    rw c.in-Some.is (next_some c.in-Some.numbers.items c.args.n c.first_from.result (rw c.in-Some.is at c.requires) (rw c.as_slice.ensures at c.first_from.ensures))

pub returns-in-Some-clause-none : goal.returns-in-Some-clause-none
returns-in-Some-clause-none c =
    rw c.in-Some.is (next_none c.in-Some.numbers.items c.args.n c.first_from.result (rw c.in-Some.is at c.requires) (rw c.as_slice.ensures at c.first_from.ensures))
