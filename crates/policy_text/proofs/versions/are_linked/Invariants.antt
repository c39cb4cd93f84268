use Rattle.std.proofs.Common.{◌≡◌, ◌≤◌, ◌-◌, true}
use Rattle.std.specs.List.{list_all}
use Rattle.gt_base.specs.Sets.{has}
use Rattle.policy_words.specs.Making.{edges_from}
use Rattle.policy_text.proofs.versions.are_linked.Given as goal

-- the edges from this number on are all on
abbrev pub invariant-loop-n : goal.invariant-loop-n
invariant-loop-n l =
    record {
      below : l.n ≤ l.count;
      on : list_all (has l.status.set) (edges_from l.n (l.count - l.n)) ≡ true;
    }

abbrev pub decreases-loop-n : goal.decreases-loop-n
decreases-loop-n l = l.n
