use Rattle.std.proofs.Common.{◌≡◌, ◌<◌, [], ◌∷◌, ◌++◌, List, length, Some}
use Rattle.std.specs.Prelude.{reverse}
use Rattle.gtrbac_model.specs.Graph.{item_at}
use Rattle.hybrid_hierarchy.specs.Searches.{Stop, TellsWalks}
use Rattle.hybrid_hierarchy.proofs.searching.walk_by.Given as goal

abbrev pub invariant-loop-i : goal.invariant-loop-i
invariant-loop-i l =
    record {
      inside : l.i < length l.queue;
      back : (ws : List Stop) (s : Stop) → TellsWalks l.queue ws → item_at ws l.at ≡ Some s → (t : Stop) × (item_at ws l.i ≡ Some t) × (s.start ≡ t.start) × (s.arcs ++ l.last ∷ [] ≡ t.arcs ++ reverse l.numbers.items);
    }

abbrev pub decreases-loop-i : goal.decreases-loop-i
decreases-loop-i l = l.i
