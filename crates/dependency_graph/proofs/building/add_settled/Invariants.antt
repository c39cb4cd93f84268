use Rattle.std.proofs.Common.{◌≡◌, ◌+◌, ◌*◌, ◌≤◌, ◌++◌, List, length, drop}
use Rattle.gt_base.specs.Held.{TriggerView}
use Rattle.gtrbac_model.specs.Safety.{of_settled}
use Rattle.dependency_graph.specs.Nets.{read_off, event_at}
use Rattle.dependency_graph.specs.Making.{AreNodes}
use Rattle.dependency_graph.proofs.building.add_settled.Given as goal

abbrev pub invariant-loop-cond : goal.invariant-loop-cond
invariant-loop-cond l =
    record {
      place : l.p ≡ l.first + l.cond-index;
      nodes : l.graph.nodes ≡ length l.events.keys;
      sizes : length l.places.items ≡ length l.graph.edges;
      room : length l.graph.edges ≤ length l.fn.graph.edges + 2 * l.cond-index;
      edges : (triggers : List TriggerView) → AreNodes triggers l.events.keys
          → read_off l.events.keys l.graph.edges l.places.items ++ of_settled triggers (event_at l.events.keys l.head) l.t l.p (drop l.cond-index l.conds)
          ≡ read_off l.events.keys l.fn.graph.edges l.fn.places.items ++ of_settled triggers (event_at l.events.keys l.head) l.t l.first l.conds;
    }
