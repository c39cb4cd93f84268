use Rattle.std.proofs.Common.{◌≡◌, take}
use Rattle.policy_book.specs.Nets.{net_of}
use Rattle.policy_book.proofs.finding.graph_of.Given as goal

abbrev pub invariant-loop-edge : goal.invariant-loop-edge
invariant-loop-edge l = l.graph ≡ net_of l.roles (take l.edge-index l.edges)
