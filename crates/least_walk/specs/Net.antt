-- What a graph is seen as.
use Rattle.std.specs.Prelude.{◌≡◌, ℕ, ◌<◌, ◌≤◌, Bool, true, false, List, length, map, Some, None}
use Rattle.std.specs.List.{enumerate_from}
use Rattle.least_walk.specs.declared.graphs.GraphEdge.{GraphEdge}
use Rattle.least_walk.specs.declared.chains.TheConstants.{NO_EDGE}
use Rattle.gtrbac_model.specs.Graph.{Arc, item_at}

-- so many nodes, numbered from 0, and the edges among them, numbered from 0
pub record Net : Type 0 where
  pub nodes : ℕ
  pub edges : List GraphEdge

-- both ends are nodes
pub record HasEnds (nodes : ℕ) (e : GraphEdge) : Type 0 where
  pub from_in : e.from < nodes
  pub to_in : e.to < nodes

abbrev pub EndsIn : ℕ → List GraphEdge → Type 0
EndsIn nodes edges = (n : ℕ) (e : GraphEdge) → item_at edges n ≡ Some e → HasEnds nodes e

-- each edge joins nodes, and each number of an edge is below 4,294,967,295
pub record IsNet (g : Net) : Type 0 where
  pub ends : EndsIn g.nodes g.edges
  pub few : length g.edges ≤ NO_EDGE

abbrev pub arc_of : GraphEdge → Arc ℕ
arc_of e = record { from = e.from; to = e.to; is_open = true }

-- the edges as arcs, all of them open
abbrev pub arcs_of : List GraphEdge → List (Arc ℕ)
arcs_of edges = map arc_of edges

-- the edges as arcs, open where the test passes their number
abbrev pub arcs_by : (ℕ → Bool) → List GraphEdge → List (Arc ℕ)
arcs_by ok edges = map (λ e. record { from = e.1.from; to = e.1.to; is_open = ok e.0 })
    (enumerate_from 0 edges)

-- each edge is open
abbrev pub every : ℕ → Bool
every n = true

-- whether the edge of this number is marked
abbrev pub is_marked : List GraphEdge → ℕ → Bool
is_marked edges n = elim (item_at edges n) [ Some e ↦ e.marked | None ↦ false ]
