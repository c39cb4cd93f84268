-- The cycle of edges that lines give, with its names.
use Rattle.std.specs.Prelude.{◌≡◌, List, Option, Some, option_map}
use Rattle.gt_base.specs.declared.policies.HierEdge.{HierEdge}
use Rattle.gtrbac_model.specs.EdgeCycles.{edge_cycle}
use Rattle.policy_words.specs.Naming.{Names}
use Rattle.policy_words.specs.LinesTogether.{edges_at}
use Rattle.policy_book.specs.declared.faults.BookFault.{BookFault}
use Rattle.policy_book.specs.declared.faults.BookFault.TheVariants.{HierarchyCycle, Memory}
use Rattle.policy_book.specs.Faults.{seniors}

-- the fault tells these edges and the names of their seniors
abbrev pub TellsEdges : Names → List HierEdge → BookFault → Type 0
TellsEdges ns es (HierarchyCycle told names) = (told.items ≡ es) × (names.items ≡ seniors ns es)
TellsEdges ns es _ = ⊥

-- the edges of the least cycle
abbrev pub cycle_edges : List HierEdge → Option (List HierEdge)
cycle_edges es = option_map (edges_at es) (edge_cycle es)

-- the fault tells the least cycle; want of memory tells none
abbrev pub IsCycleFault : Names → List HierEdge → BookFault → Type 0
IsCycleFault ns es (HierarchyCycle told names) = (cycle_edges es ≡ Some told.items)
    × (names.items ≡ seniors ns told.items)
IsCycleFault ns es Memory = Unit {0}
IsCycleFault ns es _ = ⊥
