-- Ranks in the making: they fall along no edge, and rise along each marked edge that was looked at.
use Rattle.std.specs.Prelude.{◌≡◌, ℕ, ◌+◌, ◌<◌, ◌≤◌, Bool, true, ◌||◌, ◌&&◌, not, nat_lt, nat_eq, if◌then◌else◌, List, length, slice_index, Some}
use Rattle.gt_base.specs.declared.limits.TheConstants.{MAX_NUMBER}
use Rattle.gtrbac_model.specs.Graph.{item_at}
use Rattle.least_walk.specs.declared.graphs.GraphEdge.{GraphEdge}

-- ranks fall along no edge
abbrev pub NeverFall : List GraphEdge → List ℕ → Type 0
NeverFall edges ranks = (n : ℕ) (e : GraphEdge) → item_at edges n ≡ Some e
    → slice_index ranks e.from ≤ slice_index ranks e.to

-- and rise along the marked ones of the first n edges
pub record AreRanks (nodes : ℕ) (edges : List GraphEdge) (ranks : List ℕ) (n : ℕ) : Type 0 where
  pub size : length ranks ≡ nodes
  pub never_fall : NeverFall edges ranks
  pub rise : (m : ℕ) (e : GraphEdge) → m < n → item_at edges m ≡ Some e → e.marked ≡ true
      → slice_index ranks e.from < slice_index ranks e.to
  pub bound : (v : ℕ) → slice_index ranks v + length edges ≤ MAX_NUMBER + n

-- one more above the rank, and at the rank where the node is not marked
abbrev pub lifted : ℕ → ℕ → Bool → ℕ
lifted rank r marked = if nat_lt rank r || (nat_eq r rank && not marked) then r + 1 else r
