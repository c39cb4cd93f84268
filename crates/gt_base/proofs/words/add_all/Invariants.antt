use Rattle.std.proofs.Common.{◌≡◌, ◌++◌, take, flat_map}
use Rattle.gt_base.specs.Words.{fluents_of}
use Rattle.gt_base.proofs.words.add_all.Given as goal

abbrev pub invariant-loop-word : goal.invariant-loop-word
invariant-loop-word l = l.fluents.items ≡ l.fn.fluents.items ++ flat_map fluents_of (take l.word-index l.fn.words)
