use Rattle.std.proofs.Common.{◌≡◌, take}
use Rattle.gt_base.specs.Flags.{flagged}
use Rattle.gt_base.proofs.flags.lit_of.Given as goal

abbrev pub invariant-loop-at : goal.invariant-loop-at
invariant-loop-at l = l.lit.items ≡ flagged (take l.at l.fn.fluents) (take l.at l.fn.on)
