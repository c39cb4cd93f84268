-- The walk that is computed is the least; none is computed just where there is none.
use Rattle.std.proofs.Common.{Bool, List, length, Option, Some, None, MatchOption, refl}
use Rattle.gtrbac_model.specs.Graph.{Arc, Path, least_walk, IsLeastWalk}
use Rattle.walk_laws.specs.Laws.{TellsApart, HasNoWalk}
use Rattle.walk_laws.proofs.Cutting.{short}
use Rattle.walk_laws.proofs.Shortest.{Computed, computed}

module _ {N : Type 0} (same : N → N → Bool) (apart : TellsApart same) (arcs : List (Arc N)) (goal : N → Bool) (starts : List N) where
  answer : (o : Option (Path N)) → Computed same apart arcs goal starts o → MatchOption o (HasNoWalk arcs goal starts) (IsLeastWalk arcs goal starts)
  answer None h = λ place p w.
      let s = short arcs p.start w.end p.arcs w.leads in
      h (length s.numbers) s.few place p.start w.from_start s.numbers w.end s.leads refl w.reaches
  answer (Some p) h = h

  pub least_walk_is : MatchOption (least_walk same arcs goal starts) (HasNoWalk arcs goal starts) (IsLeastWalk arcs goal starts)
  least_walk_is = answer (least_walk same arcs goal starts) (computed same apart arcs goal starts)
