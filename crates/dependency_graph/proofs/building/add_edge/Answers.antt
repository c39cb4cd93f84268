use Rattle.std.proofs.Common.{◌<◌, ap, sym, subst}
use Rattle.least_walk.proofs.Items.{item_within}
use Rattle.dependency_graph.specs.Nets.{event_at}
use Rattle.dependency_graph.proofs.Growing.{edge_added, none_added}
use Rattle.dependency_graph.proofs.building.add_edge.Goals as goal

pub returns-in_default-clause-edges : goal.returns-in_default-clause-edges
returns-in_default-clause-edges c =
    none_added c.args.events.now.keys _
    (record { source = c.args.source; target = event_at c.args.events.now.keys c.args.to; conflict = c.args.marked; trigger = c.args.place.0; place = c.args.place.1 }) c.in_default.ensures

pub add-requires-clause-ends : goal.add-requires-clause-ends
add-requires-clause-ends c =
    record {
      from_in = subst (λ k. c.in-Some.from < k) (sym c.requires.nodes) (item_within c.args.events.now.keys c.in-Some.from _ c.in-Some.ensures);
      to_in = subst (λ k. c.args.to < k) (sym c.requires.nodes) c.requires.end;
    }

pub returns-clause-edges : goal.returns-clause-edges
returns-clause-edges c =
    edge_added c.args.events.now.keys c.args.graph.now.edges c.args.places.now.items c.in-Some.from c.args.to c.args.marked c.args.source c.args.place _ _ c.in-Some.ensures c.requires.sizes
    (ap (λ g. g.edges) c.in_ok-add.ensures.ok) c.in_ok-push.ensures.items
