use Rattle.std.proofs.Common.{length, refl, ◌∙◌}
use Rattle.gtrbac_model.specs.Safety.{of_body}
use Rattle.least_walk.proofs.Items.{item_read}
use Rattle.dependency_graph.specs.Nets.{event_at}
use Rattle.dependency_graph.proofs.Growing.{body_step, at_end, two_rooms}
use Rattle.dependency_graph.proofs.building.add_body.Goals as goal

pub loop-p-preserved : goal.loop-p-preserved
loop-p-preserved c =
    let keys = c.args.events.now.keys in
    record {
      nodes = c.in_ok-add_edge-2.ensures.nodes ∙ c.in_ok-add_edge.ensures.nodes ∙ c.loop-p.invariant.nodes;
      sizes = c.in_ok-add_edge-2.ensures.sizes;
      room = two_rooms (length c.loop-p.graph.edges) (length c.add_edge.new.graph.edges) _ (length c.args.graph.now.edges) c.loop-p.p c.in_ok-add_edge.ensures.room c.in_ok-add_edge-2.ensures.room c.loop-p.invariant.room;
      edges = λ triggers nodes.
          body_step triggers keys (event_at keys c.args.head) c.args.t c.loop-p.p c.loop-p.p c.args.body.now _ _ _ _ _ c.converse.result nodes (item_read c.args.body.now c.loop-p.p _ c.loop-p-test.true) c.converse.ensures.value
          c.in_ok-add_edge.ensures.edges c.in_ok-add_edge-2.ensures.edges (c.loop-p.invariant.edges triggers nodes);
    }

pub returns-clause-edges : goal.returns-clause-edges
returns-clause-edges c triggers nodes =
    at_end c.args.body.now c.loop-p.p (λ bs. of_body triggers (event_at c.args.events.now.keys c.args.head) c.args.t c.loop-p.p bs) _ _ refl c.loop-p-test.false (c.loop-p.invariant.edges triggers nodes)
