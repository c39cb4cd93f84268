use Rattle.std.proofs.Common.{◌≡◌, ◌≤◌, length}
use Rattle.random_checks.proofs.random_graphs.random_graph.Given as goal

abbrev pub invariant-loop : goal.invariant-loop
invariant-loop l = record { nodes : l.g.nodes ≡ l.nodes; edges : length l.g.edges ≤ l.counter }
