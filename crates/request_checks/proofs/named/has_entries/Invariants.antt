use Rattle.std.proofs.Common.{◌≡◌, length}
use Rattle.std.specs.List.{list_all}
use Rattle.request_text.specs.Named.{has_entry}
use Rattle.request_checks.proofs.named.has_entries.Given as goal

abbrev pub invariant-loop-entries : goal.invariant-loop-entries
invariant-loop-entries l = list_all (has_entry l.p.policy) l.entries ≡ list_all (has_entry l.p.policy) l.fn.entries

abbrev pub decreases-loop-entries : goal.decreases-loop-entries
decreases-loop-entries l = length l.entries
