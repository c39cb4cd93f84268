use Rattle.std.proofs.Common.{◌≡◌, ℕ, ◌≤◌, ◌++◌, take, nat_eq, flat_map}
use Rattle.gt_base.specs.Sets.{has}
use Rattle.gt_base.specs.declared.limits.TheConstants.{LAST_MINUTE}
use Rattle.indexmap.specs.IndexMap.{get}
use Rattle.why_check.specs.Kept.{under, joins_at}
use Rattle.why_check.proofs.bases.put_heads.Given as goal

-- the heads of the triggers so far are there
abbrev pub invariant-loop-r : goal.invariant-loop-r
invariant-loop-r l =
    (k : ℕ) → k ≤ LAST_MINUTE → under (get nat_eq l.due k) (λ v. v.items) ≡ under (get nat_eq l.initial.due k) (λ v. v.items) ++ flat_map (joins_at (has l.before.set) l.x l.at k) (take l.r-index l.rules)
