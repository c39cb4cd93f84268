use Rattle.std.proofs.Common.{◌≡◌, ◌++◌, flat_map, take}
use Rattle.request_text.specs.Replies.{entry_line}
use Rattle.request_text.proofs.writing.push_entries.Given as goal

abbrev pub invariant-loop-e : goal.invariant-loop-e
invariant-loop-e l = l.into.items ≡ l.fn.into.items ++ flat_map (entry_line l.p) (take l.e-index l.entries)
