use Rattle.std.proofs.Common.{◌≡◌, ◌++◌, drop}
use Rattle.policy_words.specs.LinesTogether.{edges_at}
use Rattle.policy_book.proofs.cycles.edges_of.Given as goal

abbrev pub invariant-loop-number : goal.invariant-loop-number
invariant-loop-number l = l.found.items ++ edges_at l.edges (drop l.number-index l.numbers) ≡ edges_at l.edges l.numbers
