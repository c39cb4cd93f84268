use Rattle.std.proofs.Common.{◌≡◌, ◌++◌, take}
use Rattle.gt_base.specs.Sets.{has}
use Rattle.gtrbac_model.specs.Base.{limited_from}
use Rattle.duration_limits.specs.Since.{since_in}
use Rattle.why_check.proofs.periods.push_limited.Given as goal

-- what the limits so far raise has been added
abbrev pub invariant-loop-n : goal.invariant-loop-n
invariant-loop-n l = l.raised.items ≡ l.initial.raised.items ++ limited_from l.periods (has l.status.set) (since_in l.ages) 0 (take l.n l.limits) l.t
