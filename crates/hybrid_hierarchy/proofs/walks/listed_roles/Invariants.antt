use Rattle.std.proofs.Common.{◌≡◌, ◌-◌, ◌≤◌, ◌++◌}
use Rattle.hybrid_hierarchy.specs.Searches.{listed_from}
use Rattle.hybrid_hierarchy.proofs.walks.listed_roles.Given as goal

abbrev pub invariant-loop-role : goal.invariant-loop-role
invariant-loop-role l =
    record {
      low : l.low ≤ 1_000;
      listed : l.listed.items ++ listed_from l.roles l.low ≡ listed_from l.roles 0;
    }

abbrev pub decreases-loop-role : goal.decreases-loop-role
decreases-loop-role l = 1_000 - l.low
