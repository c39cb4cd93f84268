-- Cycles of a role hierarchy, and the least of them.
use Rattle.std.specs.Prelude.{◌≡◌, ◌↔◌, ℕ, ◌+◌, Bool, true, List, [], ◌∷◌, Option, Some, None, MatchOption}
use Rattle.gt_base.specs.declared.events.RoleId.{RoleId}
use Rattle.gt_base.specs.declared.policies.HierEdge.{HierEdge}
use Rattle.gtrbac_model.specs.Same.{same_role}
use Rattle.gtrbac_model.specs.Graph.{least_walk, LeadsAlong}
use Rattle.gtrbac_model.specs.Hierarchy.{all_arcs}
use Rattle.gtrbac_model.specs.Cycles.{HasNoCycle, IsLeastCycle}

-- the edge and the least walk back from its junior to its senior
abbrev pub closing : List HierEdge → ℕ → HierEdge → Option (List ℕ)
closing es n e = elim (least_walk same_role (all_arcs es) (same_role e.senior) (e.junior ∷ []))
    [ None ↦ None | Some w ↦ Some (n ∷ w.arcs) ]

-- of the edges from number n on
abbrev pub first_closing : List HierEdge → ℕ → List HierEdge → Option (List ℕ)
first_closing es n [] = None
first_closing es n (e ∷ more) = elim (closing es n e)
    [ Some c ↦ Some c | None ↦ first_closing es (n + 1) more ]

-- the numbers of the edges of the least cycle: the least edge that lies on one, and the least walk
-- back
abbrev pub edge_cycle : List HierEdge → Option (List ℕ)
edge_cycle es = first_closing es 0 es

-- every edge is marked
abbrev pub every : ℕ → Bool
every n = true

-- the cycle that is computed is the least, and none is computed just where no closed walk has an
-- edge
abbrev pub CycleIsLeast : Type 0
CycleIsLeast = (es : List HierEdge) → MatchOption (edge_cycle es) (HasNoCycle (all_arcs es) every)
    (IsLeastCycle (all_arcs es) every)

-- no walk of one or more edges leads from a role back to it
abbrev pub IsAcyclic : List HierEdge → Type 0
IsAcyclic es = (r : RoleId) (n : ℕ) (ns : List ℕ) → LeadsAlong (all_arcs es) r (n ∷ ns) r → ⊥

-- no cycle is computed just where the edges have none
abbrev pub NoneIsAcyclic : Type 0
NoneIsAcyclic = (es : List HierEdge) → (edge_cycle es ≡ None) ↔ IsAcyclic es
