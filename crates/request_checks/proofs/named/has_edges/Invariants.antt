use Rattle.std.proofs.Common.{◌≡◌, length}
use Rattle.std.specs.List.{list_all}
use Rattle.request_text.specs.Named.{has_edge}
use Rattle.request_checks.proofs.named.has_edges.Given as goal

abbrev pub invariant-loop-edges : goal.invariant-loop-edges
invariant-loop-edges l = list_all (has_edge l.p.policy) l.edges ≡ list_all (has_edge l.p.policy) l.fn.edges

abbrev pub decreases-loop-edges : goal.decreases-loop-edges
decreases-loop-edges l = length l.edges
