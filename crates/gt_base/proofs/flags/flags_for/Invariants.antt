use Rattle.std.proofs.Common.{◌≡◌, take, map}
use Rattle.gt_base.specs.Sets.{has}
use Rattle.gt_base.specs.Flags.{set_of_parts}
use Rattle.gt_base.proofs.flags.flags_for.Given as goal

abbrev pub invariant-loop-f : goal.invariant-loop-f
invariant-loop-f l = l.on.items ≡ map (has (set_of_parts l.fn.flags l.fn.more)) (take l.f-index l.fn.fluents)
