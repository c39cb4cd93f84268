use Rattle.std.proofs.Common.{◌≡◌, length}
use Rattle.policy_lines.specs.Cursors.{items_of, onto}
use Rattle.policy_lines.proofs.items.read_items.Given as goal

-- the items so far, and those of the words to come, are all
abbrev pub invariant-loop-item : goal.invariant-loop-item
invariant-loop-item l = onto l.items.items (items_of l.words) ≡ items_of l.fn.words

abbrev pub decreases-loop-item : goal.decreases-loop-item
decreases-loop-item l = length l.words
