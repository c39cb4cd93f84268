-- The passes and the workers of a list of posts.
use Rattle.std.proofs.Common.{List, map}
use Rattle.turn_lock.specs.Holders.{Holder}
use Rattle.line_server.specs.declared.posts.Post.{Post}
use Rattle.line_server.specs.declared.workers.Worker.{Worker}

module _ {M D C G L : Type 0} where
  abbrev pub passes_of : List (Post M D C G L) → List (Holder M)
  passes_of ps = map (λ (p : Post M D C G L). p.pass) ps

  abbrev pub workers_of : List (Post M D C G L) → List (Worker D C G L)
  workers_of ps = map (λ (p : Post M D C G L). p.worker) ps
