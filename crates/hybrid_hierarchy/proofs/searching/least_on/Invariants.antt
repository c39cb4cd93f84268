use Rattle.std.proofs.Common.{◌≡◌, ◌+◌, ◌-◌, length, not}
use Rattle.std.specs.List.{count_by}
use Rattle.hybrid_hierarchy.specs.Searches.{HasSearched}
use Rattle.hybrid_hierarchy.proofs.searching.least_on.Given as goal

abbrev pub invariant-loop-head : goal.invariant-loop-head
invariant-loop-head g l =
    record {
      size : length l.seen ≡ 1_000;
      searched : HasSearched (g.Q.WalkQuestion.passes l.asked) (g.Q.WalkQuestion.goals l.asked) l.edges l.from (length l.from) l.seen l.queue.items l.head 0;
    }

abbrev pub decreases-loop-head : goal.decreases-loop-head
decreases-loop-head g l = length l.queue.items + count_by not l.seen - l.head
