-- The passes of a list of posts.
use Rattle.std.specs.Prelude.{List, map}
use Rattle.turn_lock.specs.Holders.{Holder}
use Rattle.desk_checks.specs.declared.posts.DeskPost.{DeskPost}

abbrev pub passes_of : {M : Type 0} → List (DeskPost M) → List (Holder M)
passes_of {M} ps = map (λ (p : DeskPost M). p.pass) ps
