use Rattle.std.proofs.Common.{◌≡◌, length}
use Rattle.hybrid_hierarchy.specs.Searches.{HasSearched}
use Rattle.hybrid_hierarchy.proofs.searching.begun.Given as goal

abbrev pub invariant-loop-place : goal.invariant-loop-place
invariant-loop-place g l =
    record {
      size : length l.seen ≡ length l.fn.seen;
      searched : HasSearched (g.Q.WalkQuestion.passes l.asked) (g.Q.WalkQuestion.goals l.asked) l.edges l.from l.place l.seen l.queue.items 0 0;
    }
