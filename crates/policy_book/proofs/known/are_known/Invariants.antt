use Rattle.std.proofs.Common.{◌≡◌, drop}
use Rattle.std.specs.List.{list_all}
use Rattle.policy_words.specs.LinesTogether.{is_known_item as item_known}
use Rattle.policy_book.specs.Seen.{seen_names}
use Rattle.policy_book.proofs.known.are_known.Given as goal

abbrev pub invariant-loop-item : goal.invariant-loop-item
invariant-loop-item l = list_all (item_known (seen_names l.names)) (drop l.item-index l.items) ≡ list_all (item_known (seen_names l.names)) l.items
