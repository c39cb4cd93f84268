use Rattle.std.proofs.Common.{append-nil, refl, sym}
use Rattle.policy_words.specs.PolicyRead.{edge_text}
use Rattle.policy_safety.specs.Cycles.{seen_edge}
use Rattle.policy_text.proofs.Runs.{next_at, further, whole_run}
use Rattle.policy_commands.proofs.cycle_text.push_edges.Goals as goal

pub loop-edge-init : goal.loop-edge-init
loop-edge-init c = sym (append-nil _)

pub loop-edge-preserved : goal.loop-edge-preserved
loop-edge-preserved c =
    further (λ e. edge_text c.args.p.now.names (seen_edge e)) c.args.edges.now c.loop-edge.edge-index _ _ _ _
    (next_at c.args.edges.now c.args.edges.now c.loop-edge.edge-index _ refl c.loop-edge-test.true) c.loop-edge.invariant c.in_ok-push_edge.ensures

pub returns : goal.returns
returns c = whole_run (λ e. edge_text c.args.p.now.names (seen_edge e)) c.args.edges.now c.args.edges.now c.loop-edge.edge-index _ _ refl c.loop-edge-test.false c.loop-edge.invariant
