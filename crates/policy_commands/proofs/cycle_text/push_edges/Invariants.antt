use Rattle.std.proofs.Common.{◌≡◌, ◌++◌, flat_map, take}
use Rattle.policy_words.specs.PolicyRead.{edge_text}
use Rattle.policy_safety.specs.Cycles.{seen_edge}
use Rattle.policy_commands.proofs.cycle_text.push_edges.Given as goal

abbrev pub invariant-loop-edge : goal.invariant-loop-edge
invariant-loop-edge l = l.text.items ≡ l.fn.text.items ++ flat_map (λ e. edge_text l.p.names (seen_edge e)) (take l.edge-index l.edges)
