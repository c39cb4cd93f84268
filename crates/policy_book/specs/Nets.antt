-- The edges of a hierarchy as a graph of numbered nodes.
use Rattle.std.specs.Prelude.{ℕ, true, List, map}
use Rattle.gt_base.specs.declared.policies.HierEdge.{HierEdge}
use Rattle.least_walk.specs.declared.graphs.GraphEdge.{GraphEdge}
use Rattle.least_walk.specs.Net.{Net}

abbrev pub graph_edge : HierEdge → GraphEdge
graph_edge e = record { from = e.senior.0; to = e.junior.0; marked = true }

-- a node for each role, and each edge from its senior to its junior, marked
abbrev pub net_of : ℕ → List HierEdge → Net
net_of roles es = record { nodes = roles; edges = map graph_edge es }
