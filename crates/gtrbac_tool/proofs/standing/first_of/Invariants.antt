use Rattle.std.proofs.Common.{◌≡◌, ◌+◌, length}
use Rattle.gt_base.specs.Sets.{has}
use Rattle.gtrbac_tool.specs.Standing.{first_raising}
use Rattle.gtrbac_tool.proofs.standing.first_of.Given as goal

-- none of those before raises it
abbrev pub invariant-loop-rest : goal.invariant-loop-rest
invariant-loop-rest l =
    record {
      count : l.number + length l.rest ≡ 1 + length l.rules;
      found : first_raising l.x (has l.before.set) l.e l.number l.rest ≡ first_raising l.x (has l.before.set) l.e 1 l.rules;
    }

abbrev pub decreases-loop-rest : goal.decreases-loop-rest
decreases-loop-rest l = length l.rest
