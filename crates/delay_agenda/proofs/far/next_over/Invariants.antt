use Rattle.std.proofs.Common.{◌≡◌, length}
use Rattle.delay_agenda.specs.Far.{soonest_over}
use Rattle.delay_agenda.proofs.far.next_over.Given as goal

-- what is left is yet to come
abbrev pub invariant-loop-rest : goal.invariant-loop-rest
invariant-loop-rest l =
    soonest_over l.next l.rest ≡ soonest_over l.fn.near l.far

abbrev pub decreases-loop-rest : goal.decreases-loop-rest
decreases-loop-rest l = length l.rest
