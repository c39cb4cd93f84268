-- Closed walks with a marked arc, and the least of them.
use Rattle.std.specs.Prelude.{◌≡◌, ℕ, ◌<◌, ◌≤◌, ◌⊎◌, Bool, false, List, ◌∷◌, length, Some, None, IsTrue}
use Rattle.std.specs.Ordering.{nat_cmp, is_le}
use Rattle.std.specs.Cmp.Lexicographic.{slice_cmp}
use Rattle.gtrbac_model.specs.Graph.{Arc, LeadsAlong, item_at}
use Rattle.gtrbac_model.specs.Safety.{Dependency}

-- the arc of this number is marked, and the walk leads from its end back to its begin
pub record Closes {N : Type 0} (arcs : List (Arc N)) (marked : ℕ → Bool) (n : ℕ)
    (back : List ℕ) : Type 0 where
  pub arc : Arc N
  pub is : item_at arcs n ≡ Some arc
  pub is_marked : IsTrue (marked n)
  pub leads : LeadsAlong arcs arc.to back arc.from

-- no closed walk has a marked arc
abbrev pub HasNoCycle : {N : Type 0} → List (Arc N) → (ℕ → Bool) → Type 0
HasNoCycle arcs marked = (n : ℕ) (back : List ℕ) → Closes arcs marked n back → ⊥

-- fewer arcs, or as many and no greater numbers
abbrev pub NotLonger : List ℕ → List ℕ → Type 0
NotLonger p q = (length p < length q)
    ⊎ ((length p ≡ length q) × IsTrue (is_le (slice_cmp nat_cmp p q)))

-- the least marked arc that lies on a closed walk, followed by the least walk from its end back to
-- its begin
pub record IsLeastCycle {N : Type 0} (arcs : List (Arc N)) (marked : ℕ → Bool)
    (edges : List ℕ) : Type 0 where
  pub first : ℕ
  pub back : List ℕ
  pub is : edges ≡ first ∷ back
  pub closes : Closes arcs marked first back
  pub earliest : (n : ℕ) (other : List ℕ) → Closes arcs marked n other → first ≤ n
  pub shortest : (other : List ℕ) → Closes arcs marked first other → NotLonger back other

-- a level does not fall along an arc and rises along a marked one
pub record Climbs {N : Type 0} (marked : ℕ → Bool) (level : N → ℕ) (n : ℕ)
    (arc : Arc N) : Type 0 where
  pub stays : level arc.from ≤ level arc.to
  pub rises : IsTrue (marked n) → level arc.from < level arc.to

abbrev pub AreLevels : {N : Type 0} → List (Arc N) → (ℕ → Bool) → (N → ℕ) → Type 0
AreLevels {N} arcs marked level = (n : ℕ) (arc : Arc N) → item_at arcs n ≡ Some arc
    → Climbs marked level n arc

-- whether the dependency of this number is a conflict
abbrev pub is_conflict : List Dependency → ℕ → Bool
is_conflict ds n = elim (item_at ds n) [ Some d ↦ d.conflict | None ↦ false ]
