use Rattle.std.proofs.Common.{◌≡◌, ◌+◌, ◌≤◌, length}
use Rattle.delay_agenda.specs.Far.{more_in}
use Rattle.delay_agenda.proofs.far.count.Given as goal

-- what is left is yet to come
abbrev pub invariant-loop-rest : goal.invariant-loop-rest
invariant-loop-rest l =
    record {
      count : l.count + more_in l.near.set l.rest ≡ more_in l.near.set l.far;
      few : l.count + length l.rest ≤ length l.far;
    }

abbrev pub decreases-loop-rest : goal.decreases-loop-rest
decreases-loop-rest l = length l.rest
