use Rattle.std.proofs.Common.{◌≡◌, map, take}
use Rattle.policy_words.specs.Naming.{role_name}
use Rattle.policy_book.specs.Seen.{seen_names}
use Rattle.policy_book.proofs.cycles.senior_names.Given as goal

abbrev pub invariant-loop-edge : goal.invariant-loop-edge
invariant-loop-edge l = l.found.items ≡ map (λ e. role_name (seen_names l.names) e.senior) (take l.edge-index l.edges)
