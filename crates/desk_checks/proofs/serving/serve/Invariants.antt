use Rattle.std.proofs.Common.{◌≡◌, ◌+◌, ◌≤◌, length}
use Rattle.turn_lock.specs.Holders.{site_of}
use Rattle.desk_checks.specs.Posts.{IsBack}
use Rattle.desk_checks.proofs.serving.serve.Given as goal

abbrev pub invariant-loop : goal.invariant-loop
invariant-loop g l = IsBack (site_of l.desk) l.fn.post.pass l.post.pass × (length l.post.pass.own ≡ length l.fn.post.pass.own + l.told) × (l.told ≤ l.counter)
