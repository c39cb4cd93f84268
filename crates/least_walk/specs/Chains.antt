-- The edges of each node, found one after the other.
use Rattle.std.specs.Prelude.{◌≡◌, ℕ, ◌+◌, ◌<◌, ◌≤◌, ◌⊎◌, List, length, map, Some, slice_index}
use Rattle.gtrbac_model.specs.Graph.{item_at}
use Rattle.least_walk.specs.declared.graphs.GraphEdge.{GraphEdge}
use Rattle.least_walk.specs.declared.chains.Adjacency.{Adjacency}
use Rattle.least_walk.specs.declared.chains.TheConstants.{NO_EDGE}

-- of the numbers from a up to b none has this key
abbrev pub NoneFrom : List ℕ → ℕ → ℕ → ℕ → Type 0
NoneFrom keys v a b = (m : ℕ) → a ≤ m → m < b → item_at keys m ≡ Some v → ⊥

-- the last number below b that has the key, or none
abbrev pub IsLast : List ℕ → ℕ → ℕ → ℕ → Type 0
IsLast keys v b n = ((n ≡ NO_EDGE) × NoneFrom keys v 0 b)
    ⊎ ((n < b) × (item_at keys n ≡ Some v) × NoneFrom keys v (n + 1) b)

-- for each key its last number, and for each number the one before it with the same key
pub record AreChains (keys last before : List ℕ) : Type 0 where
  pub size : length before ≡ length keys
  pub lasts : (v : ℕ) → v < length last → IsLast keys v (length keys) (slice_index last v)
  pub rest : (v : ℕ) → length last ≤ v → NoneFrom keys v 0 (length keys)
  pub befores : (n v : ℕ) → item_at keys n ≡ Some v → IsLast keys v n (slice_index before n)

abbrev pub edge_begins : List GraphEdge → List ℕ
edge_begins edges = map (λ e. e.from) edges

abbrev pub ends : List GraphEdge → List ℕ
ends edges = map (λ e. e.to) edges

-- the edges of each node by their begins and by their ends
pub record IsAdjacency (edges : List GraphEdge) (a : Adjacency) : Type 0 where
  pub out : AreChains (edge_begins edges) a.out.last.items a.out.before.items
  pub into : AreChains (ends edges) a.into.last.items a.into.before.items
