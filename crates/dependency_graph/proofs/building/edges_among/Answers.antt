use Rattle.std.proofs.Common.{Some, refl, sym, ◌∙◌, ap, arith}
use Rattle.gtrbac_model.specs.Safety.{of_triggers}
use Rattle.least_walk.proofs.Items.{item_read}
use Rattle.dependency_graph.proofs.Growing.{head_listed, trigger_step, at_end}
use Rattle.dependency_graph.proofs.building.edges_among.Goals as goal

pub add_trigger-requires-clause-head : goal.add_trigger-requires-clause-head
add_trigger-requires-clause-head c =
    head_listed c.args.triggers.now c.args.events.now.keys c.loop-t.t c.index-triggers-t.result c.requires.nodes
    (item_read c.args.triggers.now c.loop-t.t c.index-triggers-t.result c.loop-t-test.true ∙ ap Some (sym c.index-triggers-t.is))

pub add_trigger-requires-clause-short : goal.add_trigger-requires-clause-short
add_trigger-requires-clause-short c =
    c.requires.limits.short c.loop-t.t c.index-triggers-t.result
    (item_read c.args.triggers.now c.loop-t.t c.index-triggers-t.result c.loop-t-test.true ∙ ap Some (sym c.index-triggers-t.is))

pub loop-t-preserved : goal.loop-t-preserved
loop-t-preserved c =
    record {
      nodes = c.in_ok-add_trigger.ensures.nodes ∙ c.loop-t.invariant.nodes;
      sizes = c.in_ok-add_trigger.ensures.sizes;
      room = omega (arith, c.in_ok-add_trigger.ensures.room, c.loop-t.invariant.room);
      edges = trigger_step c.args.triggers.now c.args.events.now.keys c.loop-t.t c.index-triggers-t.result _ _ _ c.requires.nodes
          (item_read c.args.triggers.now c.loop-t.t c.index-triggers-t.result c.loop-t-test.true ∙ ap Some (sym c.index-triggers-t.is)) c.in_ok-add_trigger.ensures.edges c.loop-t.invariant.edges;
    }

pub returns-clause-edges : goal.returns-clause-edges
returns-clause-edges c =
    at_end c.args.triggers.now c.loop-t.t (λ rs. of_triggers c.args.triggers.now c.loop-t.t rs) _ _ refl c.loop-t-test.false c.loop-t.invariant.edges
