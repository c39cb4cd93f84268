-- The decision by the two walks: over usable edges, and over any.
use Rattle.std.specs.Prelude.{ℕ, Bool, true, false, List, [], ◌∷◌, Option, Some, None, if◌then◌else◌}
use Rattle.gt_base.specs.declared.policies.HierEdge.{HierEdge}
use Rattle.gt_base.specs.declared.requests.Decision.{Decision}
use Rattle.gt_base.specs.declared.requests.Decision.TheVariants.{Permit, NoGrant, Shut}
use Rattle.gt_base.specs.Held.{RoleWalk}
use Rattle.gtrbac_model.specs.Conflict.{Status}
use Rattle.gtrbac_model.specs.Graph.{item_at}
use Rattle.gtrbac_model.specs.Hierarchy.{usable}

-- whether edge n lends permissions now
abbrev pub is_usable_edge : Status → List HierEdge → ℕ → Bool
is_usable_edge s edges n = elim (item_at edges n) [ Some e ↦ usable s true n e | None ↦ false ]

-- the first of these edges that is not usable, or 0
abbrev pub first_unusable : Status → List HierEdge → List ℕ → ℕ
first_unusable s edges [] = 0
first_unusable s edges (n ∷ ns) = if is_usable_edge s edges n then first_unusable s edges ns else n

-- the same, none where each is usable
abbrev pub first_shut : Status → List HierEdge → List ℕ → Option ℕ
first_shut s edges [] = None
first_shut s edges (n ∷ ns) = if is_usable_edge s edges n then first_shut s edges ns else Some n

-- where no walk of usable edges leads there: none at all, or one that is shut at an edge
abbrev pub denied_by : Status → List HierEdge → Option RoleWalk → Decision
denied_by s edges None = NoGrant
denied_by s edges (Some w) = Shut (first_unusable s edges w.edges)

abbrev pub by_walks : Status → List HierEdge → Option RoleWalk → Option RoleWalk → Decision
by_walks s edges (Some w) any = Permit w
by_walks s edges None any = denied_by s edges any
