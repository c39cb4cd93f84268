use Rattle.std.proofs.Common.{◌<◌, ℕ, List, ◌++◌, length, slice_index}
use Rattle.least_walk.specs.Walks.{Descends}
use Rattle.least_walk.proofs.walking.follow.Given as goal
use Rattle.least_walk.specs.declared.distances.TheConstants.{FAR}

abbrev pub invariant-loop-at : goal.invariant-loop-at
invariant-loop-at g l =
    record {
      inside : l.at < length l.dist;
      reached : slice_index l.dist l.at < FAR;
      whole : (rest : List ℕ) → Descends (g.P.Passable.passes l.by) l.edges l.dist l.at rest → Descends (g.P.Passable.passes l.by) l.edges l.dist l.start (l.numbers ++ rest);
    }

abbrev pub decreases-loop-at : goal.decreases-loop-at
decreases-loop-at g l = slice_index l.dist l.at
