use Rattle.std.proofs.Common.{◌+◌, ◌*◌, ◌≤◌, length, take}
use Rattle.gt_base.specs.Sets.{has}
use Rattle.gtrbac_model.specs.Base.{limited_from}
use Rattle.gtrbac_model.specs.History.{is_some_item}
use Rattle.duration_limits.specs.Since.{since_in}
use Rattle.instant_bases.specs.Nexts.{IsNextOf}
use Rattle.instant_bases.proofs.limits.next_limited_in_looks.Given as goal

-- the least instant of the limits so far, for two looks at each
abbrev pub invariant-loop-n : goal.invariant-loop-n
invariant-loop-n g l =
    record {
      next : IsNextOf (λ t. is_some_item (limited_from l.periods (has l.status.set) (since_in l.ages) 0 (take l.n l.limits) t)) l.now l.next;
      within : l.n ≤ length l.limits;
      cost : l.looks ≤ l.initial.looks + 2 * l.n;
    }
