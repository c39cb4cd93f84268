-- Walks of a graph towards goals.
use Rattle.std.specs.Prelude.{◌≡◌, ℕ, ◌+◌, ◌<◌, ◌≤◌, ◌⊎◌, Bool, true, false, List, [], ◌∷◌, length, slice_index, Some}
use Rattle.std.specs.List.{slice_index_or}
use Rattle.least_walk.specs.declared.graphs.GraphEdge.{GraphEdge}
use Rattle.gtrbac_model.specs.Graph.{Arc, Path, LeadsAlong, IsWalk, item_at}
use Rattle.least_walk.specs.Net.{arcs_of}
use Rattle.least_walk.specs.declared.distances.TheConstants.{FAR}

-- whether the node is a goal
abbrev pub is_goal : List Bool → ℕ → Bool
is_goal goal v = slice_index_or goal v false

-- no walk leads from one of the starts to a goal
abbrev pub HasNoWalk : List (Arc ℕ) → (ℕ → Bool) → List ℕ → Type 0
HasNoWalk arcs goal starts = (place : ℕ) (p : Path ℕ) → IsWalk arcs goal starts place p → ⊥

-- the least open edge that leads from the node one step closer
pub record IsFirstStep (ok : ℕ → Bool) (edges : List GraphEdge) (ds : List ℕ)
    (v n : ℕ) : Type 0 where
  pub edge : GraphEdge
  pub is : item_at edges n ≡ Some edge
  pub may : ok n ≡ true
  pub leaves : edge.from ≡ v
  pub closer : slice_index ds edge.to + 1 ≡ slice_index ds v
  pub least : (m : ℕ) (e : GraphEdge) → item_at edges m ≡ Some e → ok m ≡ true → e.from ≡ v
      → slice_index ds e.to + 1 ≡ slice_index ds v → n ≤ m

-- first steps, one after the other, down to distance 0
abbrev pub Descends : (ℕ → Bool) → List GraphEdge → List ℕ → ℕ → List ℕ → Type 0
Descends ok edges ds v [] = slice_index ds v ≡ 0
Descends ok edges ds v (n ∷ ns) = (step : IsFirstStep ok edges ds v n)
    × Descends ok edges ds step.edge.to ns

-- of the starts at a distance, the nearest, and of these the earliest
pub record IsNearest (starts : List ℕ) (ds : List ℕ) (s : ℕ) : Type 0 where
  pub place : ℕ
  pub is : item_at starts place ≡ Some s
  pub reached : slice_index ds s < FAR
  pub least : (j t : ℕ) → item_at starts j ≡ Some t
      → (slice_index ds s < slice_index ds t)
      ⊎ ((slice_index ds s ≡ slice_index ds t) × (place ≤ j))

-- no start is at a distance
abbrev pub AllFar : List ℕ → List ℕ → Type 0
AllFar starts ds = (j t : ℕ) → item_at starts j ≡ Some t → FAR ≤ slice_index ds t

-- marked are the nodes from which a walk leads to a goal: with the end of an edge its begin is
-- marked, and from each a walk leads there
pub record IsReach (edges : List GraphEdge) (goal : ℕ → Bool) (reach : List Bool) : Type 0 where
  pub goals : (v : ℕ) → v < length reach → goal v ≡ true → is_goal reach v ≡ true
  pub closed : (n : ℕ) (e : GraphEdge) → item_at edges n ≡ Some e → is_goal reach e.to ≡ true
      → is_goal reach e.from ≡ true
  pub walks : (v : ℕ) → is_goal reach v ≡ true
      → (ms : List ℕ) × (end : ℕ) × LeadsAlong (arcs_of edges) v ms end × (goal end ≡ true)
