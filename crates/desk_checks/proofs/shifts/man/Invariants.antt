use Rattle.std.proofs.Common.{◌≡◌, ◌+◌, ◌≤◌, ◌++◌, length, reverse, vec_len, vec_capacity}
use Rattle.desk_checks.specs.PostLists.{passes_of}
use Rattle.desk_checks.proofs.shifts.man.Given as goal

abbrev pub invariant-loop-pass : goal.invariant-loop-pass
invariant-loop-pass g l =
    (l.passes.items ++ reverse (passes_of l.posts.items) ≡ l.fn.passes.items) × (length l.passes.items + vec_len l.posts ≤ vec_capacity l.posts)
    × (l.passes.spare + length l.passes.items ≡ l.fn.passes.spare + length l.fn.passes.items)

abbrev pub decreases-loop-pass : goal.decreases-loop-pass
decreases-loop-pass g l = length l.passes.items
