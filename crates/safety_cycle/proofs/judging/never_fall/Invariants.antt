use Rattle.std.proofs.Common.{◌≡◌, ℕ, ◌<◌, ◌≤◌, slice_index, Some}
use Rattle.gtrbac_model.specs.Graph.{item_at}
use Rattle.least_walk.specs.declared.graphs.GraphEdge.{GraphEdge}
use Rattle.safety_cycle.proofs.judging.never_fall.Given as goal

abbrev pub invariant-loop-e : goal.invariant-loop-e
invariant-loop-e l = (m : ℕ) (e : GraphEdge) → m < l.e-index → item_at l.edges m ≡ Some e → slice_index l.ranks e.from ≤ slice_index l.ranks e.to
