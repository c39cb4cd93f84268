use Rattle.std.proofs.Common.{◌≡◌, ◌≤◌, ◌++◌, reverse, vec_len}
use Rattle.desk_checks.specs.PostLists.{passes_of}
use Rattle.desk_checks.proofs.shifts.relieve.Given as goal

abbrev pub invariant-loop-post : goal.invariant-loop-post
invariant-loop-post g l = (l.passes.items ++ reverse (passes_of l.posts.items) ≡ reverse (passes_of l.fn.posts.items)) × (vec_len l.posts ≤ l.passes.spare)

abbrev pub decreases-loop-post : goal.decreases-loop-post
decreases-loop-post g l = vec_len l.posts
