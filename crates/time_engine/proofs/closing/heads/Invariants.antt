use Rattle.std.proofs.Common.{◌≡◌, take, flat_map}
use Rattle.gt_base.specs.Sets.{has}
use Rattle.time_engine.specs.Plans.{joins_of}
use Rattle.time_engine.proofs.closing.heads.Given as goal

-- the heads of the triggers so far
abbrev pub invariant-loop-trigger : goal.invariant-loop-trigger
invariant-loop-trigger l = l.pairs.items ≡ flat_map (joins_of (has l.before.set) l.x l.at) (take l.trigger-index l.triggers)
