use Rattle.std.proofs.Common.{◌≡◌, ◌+◌, ◌*◌, ◌≤◌, ◌++◌, List, length, drop}
use Rattle.gt_base.specs.Held.{TriggerView}
use Rattle.gtrbac_model.specs.Safety.{of_body}
use Rattle.dependency_graph.specs.Nets.{read_off, event_at}
use Rattle.dependency_graph.specs.Making.{AreNodes}
use Rattle.dependency_graph.proofs.building.add_body.Given as goal

abbrev pub invariant-loop-p : goal.invariant-loop-p
invariant-loop-p l =
    record {
      nodes : l.graph.nodes ≡ length l.events.keys;
      sizes : length l.places.items ≡ length l.graph.edges;
      room : length l.graph.edges ≤ length l.fn.graph.edges + 2 * l.p;
      edges : (triggers : List TriggerView) → AreNodes triggers l.events.keys
          → read_off l.events.keys l.graph.edges l.places.items ++ of_body triggers (event_at l.events.keys l.head) l.t l.p (drop l.p l.body)
          ≡ read_off l.events.keys l.fn.graph.edges l.fn.places.items ++ of_body triggers (event_at l.events.keys l.head) l.t 0 l.body;
    }
