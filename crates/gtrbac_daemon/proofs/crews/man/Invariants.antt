use Rattle.std.proofs.Common.{◌≡◌, ◌+◌, ◌≤◌, ◌++◌, length, reverse, vec_len, vec_capacity}
use Rattle.gtrbac_daemon.proofs.PostLists.{passes_of, workers_of}
use Rattle.gtrbac_daemon.proofs.crews.man.Given as goal

abbrev pub invariant-loop-pass : goal.invariant-loop-pass
invariant-loop-pass g l =
    record {
      passes : l.passes.items ++ reverse (passes_of l.posts.items) ≡ l.fn.passes.items;
      workers : l.crew.items ++ reverse (workers_of l.posts.items) ≡ l.fn.crew.items;
      pairs : length l.passes.items ≡ length l.crew.items;
      room : length l.crew.items + vec_len l.posts ≤ vec_capacity l.posts;
      spare : l.passes.spare + length l.passes.items ≡ l.fn.passes.spare + length l.fn.passes.items;
      kept : vec_capacity l.crew ≡ vec_capacity l.fn.crew;
    }

abbrev pub decreases-loop-pass : goal.decreases-loop-pass
decreases-loop-pass g l = length l.passes.items
