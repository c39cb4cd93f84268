use Rattle.std.proofs.Common.{◌≡◌, ◌++◌, drop}
use Rattle.std.specs.List.{filter_map}
use Rattle.policy_words.specs.Making.{cond_in as cond_said}
use Rattle.policy_book.specs.Seen.{seen_names}
use Rattle.policy_book.proofs.rules.conds_in.Given as goal

abbrev pub invariant-loop-item : goal.invariant-loop-item
invariant-loop-item l = l.conds.items ++ filter_map (cond_said (seen_names l.names)) (drop l.item-index l.items) ≡ filter_map (cond_said (seen_names l.names)) l.items
