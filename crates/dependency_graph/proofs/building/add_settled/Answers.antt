use Rattle.std.proofs.Common.{length, refl, ◌∙◌, arith}
use Rattle.gtrbac_model.specs.Safety.{of_settled}
use Rattle.least_walk.proofs.Items.{item_read}
use Rattle.dependency_graph.specs.Nets.{event_at}
use Rattle.dependency_graph.proofs.Growing.{settled_step, at_end, two_rooms}
use Rattle.dependency_graph.proofs.building.add_settled.Goals as goal

pub loop-cond-preserved : goal.loop-cond-preserved
loop-cond-preserved c =
    let keys = c.args.events.now.keys in
    record {
      place = omega (arith, c.loop-cond.invariant.place);
      nodes = c.in_ok-add_edge-2.ensures.nodes ∙ c.in_ok-add_edge.ensures.nodes ∙ c.loop-cond.invariant.nodes;
      sizes = c.in_ok-add_edge-2.ensures.sizes;
      room = two_rooms (length c.loop-cond.graph.edges) (length c.add_edge.new.graph.edges) _ (length c.args.graph.now.edges) c.loop-cond.cond-index c.in_ok-add_edge.ensures.room c.in_ok-add_edge-2.ensures.room c.loop-cond.invariant.room;
      edges = λ triggers nodes.
          settled_step triggers keys (event_at keys c.args.head) c.args.t c.loop-cond.p c.loop-cond.cond-index c.args.conds.now _ _ _ _ _ _ c.converse.result nodes
          (item_read c.args.conds.now c.loop-cond.cond-index _ c.loop-cond-test.true) refl c.converse.ensures.value
          c.in_ok-add_edge.ensures.edges c.in_ok-add_edge-2.ensures.edges (c.loop-cond.invariant.edges triggers nodes);
    }

pub returns-clause-edges : goal.returns-clause-edges
returns-clause-edges c triggers nodes =
    at_end c.args.conds.now c.loop-cond.cond-index (λ cs. of_settled triggers (event_at c.args.events.now.keys c.args.head) c.args.t c.loop-cond.p cs) _ _ refl c.loop-cond-test.false (c.loop-cond.invariant.edges triggers nodes)
