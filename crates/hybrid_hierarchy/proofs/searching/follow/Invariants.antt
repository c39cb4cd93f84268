use Rattle.std.proofs.Common.{◌≡◌, ◌+◌, ◌-◌, ◌≤◌, length, not}
use Rattle.std.specs.List.{count_by}
use Rattle.hybrid_hierarchy.specs.Searches.{Following}
use Rattle.hybrid_hierarchy.proofs.searching.follow.Given as goal

abbrev pub invariant-loop-n : goal.invariant-loop-n
invariant-loop-n g l =
    record {
      size : length l.seen ≡ length l.fn.seen;
      fewer : length l.queue.items + count_by not l.seen ≤ length l.fn.queue.items + count_by not l.fn.seen;
      following : Following (g.Q.WalkQuestion.passes l.asked) (g.Q.WalkQuestion.goals l.asked) l.edges l.from l.seen l.queue.items l.head l.role l.n;
    }

abbrev pub decreases-loop-n : goal.decreases-loop-n
decreases-loop-n g l = 4_294_967_295 - l.n
