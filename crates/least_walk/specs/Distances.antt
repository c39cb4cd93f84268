-- Distances: the least number of edges from each node to a goal.
use Rattle.std.specs.Prelude.{◌≡◌, ℕ, ◌+◌, ◌<◌, ◌≤◌, ◌↔◌, Bool, true, nat_eq, if◌then◌else◌, List, length, slice_index, Some, count_by}
use Rattle.std.specs.List.{slice_get}
use Rattle.least_walk.specs.declared.graphs.GraphEdge.{GraphEdge}
use Rattle.least_walk.specs.declared.distances.TheConstants.{FAR}
use Rattle.gtrbac_model.specs.Graph.{item_at}

abbrev pub is_far : ℕ → Bool
is_far d = nat_eq d FAR

-- how many nodes have no distance
abbrev pub unreached : List ℕ → ℕ
unreached ds = count_by is_far ds

-- the begin of the edge has a distance, at most one more than that of its end
pub record NearBy (ds : List ℕ) (e : GraphEdge) : Type 0 where
  pub reached : slice_index ds e.from < FAR
  pub near : slice_index ds e.from ≤ slice_index ds e.to + 1

-- an open edge from the node leads one step closer
pub record HasStep (ok : ℕ → Bool) (edges : List GraphEdge) (ds : List ℕ) (v : ℕ) : Type 0 where
  pub number : ℕ
  pub edge : GraphEdge
  pub is : item_at edges number ≡ Some edge
  pub may : ok number ≡ true
  pub leaves : edge.from ≡ v
  pub closer : slice_index ds edge.to + 1 ≡ slice_index ds v

-- each goal is at 0, and else a distance is that of a step closer, and a node with an open edge to
-- one with a distance has one
pub record AreDistances (ok : ℕ → Bool) (edges : List GraphEdge) (goal : List Bool)
    (ds : List ℕ) : Type 0 where
  pub size : length ds ≡ length goal
  pub bound : (v : ℕ) → slice_index ds v ≤ FAR
  pub goals : (v : ℕ) → v < length goal → (slice_index ds v ≡ 0) ↔ (slice_get goal v ≡ Some true)
  pub steps : (v : ℕ) → 0 < slice_index ds v → slice_index ds v < FAR → HasStep ok edges ds v
  pub nearby : (n : ℕ) (e : GraphEdge) → item_at edges n ≡ Some e → ok n ≡ true
      → slice_index ds e.to < FAR → NearBy ds e

-- the same, as far as it was found: the nodes that have a distance stand in a queue, nearer ones
-- first, and the open edges to those before the head are done
pub record Spread (ok : ℕ → Bool) (edges : List GraphEdge) (goal : List Bool) (ds queue : List ℕ)
    (head : ℕ) : Type 0 where
  pub size : length ds ≡ length goal
  pub bound : (v : ℕ) → slice_index ds v ≤ FAR
  pub goals : (v : ℕ) → v < length goal → (slice_index ds v ≡ 0) ↔ (slice_get goal v ≡ Some true)
  pub steps : (v : ℕ) → 0 < slice_index ds v → slice_index ds v < FAR → HasStep ok edges ds v
  pub few : (v : ℕ) → slice_index ds v < FAR → slice_index ds v + unreached ds ≤ length goal
  pub listed : (v : ℕ) → v < length goal → slice_index ds v < FAR
      → (i : ℕ) × (item_at queue i ≡ Some v)
  pub members : (i v : ℕ) → item_at queue i ≡ Some v → (v < length goal) × (slice_index ds v < FAR)
  pub order : (i j v w : ℕ) → i ≤ j → item_at queue i ≡ Some v → item_at queue j ≡ Some w
      → slice_index ds v ≤ slice_index ds w
  pub within : (i v w : ℕ) → head ≤ i → item_at queue i ≡ Some v → slice_index ds w < FAR
      → slice_index ds w ≤ slice_index ds v + 1
  pub front : head ≤ length queue
  pub done : (i n : ℕ) (e : GraphEdge) → i < head → item_at queue i ≡ Some e.to
      → item_at edges n ≡ Some e → ok n ≡ true → NearBy ds e

abbrev pub start_of : Bool → ℕ
start_of is = if is then 0 else FAR
