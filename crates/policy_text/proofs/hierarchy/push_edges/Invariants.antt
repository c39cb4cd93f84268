use Rattle.std.proofs.Common.{◌≡◌, ◌++◌, take}
use Rattle.policy_words.specs.Canonical.{edge_line}
use Rattle.policy_text.specs.Sections.{lines_by}
use Rattle.policy_text.proofs.hierarchy.push_edges.Given as goal

abbrev pub invariant-loop-edge : goal.invariant-loop-edge
invariant-loop-edge l = l.text.items ≡ l.fn.text.items ++ lines_by (edge_line l.p.names) (take l.edge-index l.p.policy.edges)
