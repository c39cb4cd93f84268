use Rattle.std.proofs.Common.{◌≡◌, ◌+◌, ◌≤◌, ◌++◌, reverse, vec_len, vec_capacity}
use Rattle.gtrbac_daemon.proofs.PostLists.{passes_of, workers_of}
use Rattle.gtrbac_daemon.proofs.crews.relieve.Given as goal

abbrev pub invariant-loop-post : goal.invariant-loop-post
invariant-loop-post g l =
    record {
      passes : l.passes.items ++ reverse (passes_of l.posts.items) ≡ reverse (passes_of l.fn.posts.items);
      workers : l.crew.items ++ reverse (workers_of l.posts.items) ≡ reverse (workers_of l.fn.posts.items);
      passes_room : vec_len l.posts ≤ l.passes.spare;
      crew_room : vec_len l.crew + vec_len l.posts ≤ vec_capacity l.crew;
    }

abbrev pub decreases-loop-post : goal.decreases-loop-post
decreases-loop-post g l = vec_len l.posts
