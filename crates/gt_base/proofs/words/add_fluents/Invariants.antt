use Rattle.std.proofs.Common.{◌≡◌, ◌++◌}
use Rattle.gt_base.proofs.WordLists.{lowest}
use Rattle.gt_base.proofs.words.add_fluents.Given as goal

abbrev pub invariant-loop-bit : goal.invariant-loop-bit
invariant-loop-bit l = l.fluents.items ≡ l.fn.fluents.items ++ lowest l.fn.word l.bit
