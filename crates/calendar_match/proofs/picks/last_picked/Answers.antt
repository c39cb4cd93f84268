use Rattle.calendar_match.proofs.Numbers.{last_some, last_none}
use Rattle.calendar_match.proofs.picks.last_picked.Goals as goal

pub returns-in-Some-clause-some : goal.returns-in-Some-clause-some
returns-in-Some-clause-some c =
    rw c.in-Some.is (last_some c.in-Some.numbers.items c.args.n c.last_upto.result (rw c.in-Some.is at c.requires.sets) (rw c.as_slice.ensures at c.last_upto.ensures))

pub returns-in-Some-clause-none : goal.returns-in-Some-clause-none
returns-in-Some-clause-none c =
    rw c.in-Some.is (last_none c.in-Some.numbers.items c.args.n c.last_upto.result (rw c.in-Some.is at c.requires.sets) (rw c.as_slice.ensures at c.last_upto.ensures))
