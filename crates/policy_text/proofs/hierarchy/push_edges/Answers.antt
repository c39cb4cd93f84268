use Rattle.std.proofs.Common.{◌≡◌, append-nil, sym, ◌∙◌}
use Rattle.gtrbac_model.proofs.Elements.{both_true}
use Rattle.gtrbac_model.specs.WholePolicy.{is_edge}
use Rattle.policy_words.specs.Canonical.{edge_line}
use Rattle.policy_text.specs.Sections.{line_text}
use Rattle.policy_text.proofs.Runs.{passes_at, next_at, further, whole_run}
use Rattle.policy_text.proofs.hierarchy.push_edges.Goals as goal

pub loop-edge-init : goal.loop-edge-init
loop-edge-init c = sym (append-nil _)

pub push_edge-requires : goal.push_edge-requires
push_edge-requires c =
    passes_at (is_edge c.args.p.now.policy) c.as_slice-edges.result.now c.args.p.now.policy.edges c.loop-edge.edge-index _
    (both_true _ _ (both_true _ _ c.keeps.ensures.policy.edges).0).1 (c.as_slice-edges.ensures ∙ c.edges.ensures) c.loop-edge-test.true

pub loop-edge-preserved : goal.loop-edge-preserved
loop-edge-preserved c =
    let edges = c.args.p.now.policy.edges in
    let same : c.as_slice-edges.result.now ≡ edges = c.as_slice-edges.ensures ∙ c.edges.ensures in
    let next = next_at c.as_slice-edges.result.now edges c.loop-edge.edge-index _ same c.loop-edge-test.true in
    further (λ x. line_text (edge_line c.args.p.now.names x)) edges c.loop-edge.edge-index _ _ _ _ next c.loop-edge.invariant c.in_ok-push_edge.ensures

pub returns : goal.returns
returns c =
    whole_run (λ x. line_text (edge_line c.args.p.now.names x)) c.as_slice-edges.result.now c.args.p.now.policy.edges c.loop-edge.edge-index _ _ (c.as_slice-edges.ensures ∙ c.edges.ensures) c.loop-edge-test.false c.loop-edge.invariant
