use Rattle.std.proofs.Common.{◌≡◌, ◌+◌, ◌≤◌, ℕ, length, Some, slice_index_or}
use Rattle.gt_base.specs.declared.policies.HierEdge.{HierEdge}
use Rattle.gtrbac_model.specs.Graph.{item_at}
use Rattle.hybrid_hierarchy.specs.Searches.{IsFirstEdge}
use Rattle.hybrid_hierarchy.proofs.outgoing.outgoing_of.Given as goal
use Rattle.hybrid_hierarchy.specs.declared.outgoing.TheConstants.{NO_EDGE}

abbrev pub invariant-loop-n : goal.invariant-loop-n
invariant-loop-n l =
    record {
      low : l.n ≤ length l.edges;
      nodes : length l.first.items ≡ 1_000;
      size : length l.next.items ≡ length l.edges;
      firsts : (v : ℕ) → IsFirstEdge l.edges v l.n (slice_index_or l.first.items v NO_EDGE);
      nexts : (m : ℕ) (e : HierEdge) → l.n ≤ m → item_at l.edges m ≡ Some e → IsFirstEdge l.edges e.senior.0 (m + 1) (slice_index_or l.next.items m 0);
    }

abbrev pub decreases-loop-n : goal.decreases-loop-n
decreases-loop-n l = l.n
