use Rattle.std.proofs.Common.{arith}
use Rattle.calendar_match.proofs.Passing.{ahead_none, ahead_number}
use Rattle.calendar_match.proofs.steps.ahead_in_set.Goals as goal

pub returns-in-None-clause-some : goal.returns-in-None-clause-some
returns-in-None-clause-some c =
    rw c.end_of.ensures (ahead_none c.args.outer c.args.inner _ c.args.m c.requires.low (rw c.number_within-n.ensures at c.in-None.ensures.none))

pub returns-in-Some-2-clause-some : goal.returns-in-Some-2-clause-some
returns-in-Some-2-clause-some c =
    let f = c.in-Some.ensures.some in
    let low = f.low in
    rw (c.ahead_to.ensures, c.number_within-n.ensures) (ahead_number c.args.outer c.args.inner _ c.args.m c.in-Some.k c.requires.low (omega arith) (rw c.number_within-n.ensures at f))
