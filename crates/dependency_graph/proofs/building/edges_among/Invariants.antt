use Rattle.std.proofs.Common.{◌≡◌, ◌*◌, ◌≤◌, ◌++◌, length, drop}
use Rattle.gtrbac_model.specs.Safety.{of_triggers, dependencies}
use Rattle.dependency_graph.specs.Nets.{read_off}
use Rattle.dependency_graph.proofs.building.edges_among.Given as goal

abbrev pub invariant-loop-t : goal.invariant-loop-t
invariant-loop-t l =
    record {
      nodes : l.graph.nodes ≡ length l.events.keys;
      sizes : length l.places.items ≡ length l.graph.edges;
      room : length l.graph.edges ≤ 32 * l.t;
      edges : read_off l.events.keys l.graph.edges l.places.items ++ of_triggers l.triggers l.t (drop l.t l.triggers) ≡ dependencies l.triggers;
    }
