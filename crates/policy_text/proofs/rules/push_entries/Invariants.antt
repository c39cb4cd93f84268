use Rattle.std.proofs.Common.{◌≡◌, ◌++◌, take}
use Rattle.policy_text.specs.Sections.{lines_by, entry_line}
use Rattle.policy_text.proofs.rules.push_entries.Given as goal

abbrev pub invariant-loop-entry : goal.invariant-loop-entry
invariant-loop-entry l = l.text.items ≡ l.fn.text.items ++ lines_by (entry_line l.p.names) (take l.entry-index l.p.policy.entries)
