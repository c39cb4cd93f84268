use Rattle.std.proofs.Common.{◌≡◌, take}
use Rattle.gt_base.specs.declared.events.Event.{Event}
use Rattle.indexmap.specs.IndexMap.{get}
use Rattle.trigger_rules.specs.Indexed.{event_eq, numbers, under}
use Rattle.why_check.specs.Heads.{is_headed}
use Rattle.why_check.proofs.heads.head_index.Given as goal

-- the triggers so far are there
abbrev pub invariant-loop-n : goal.invariant-loop-n
invariant-loop-n l = (e : Event) → under (get event_eq l.index e) (λ v. v.items) ≡ numbers (is_headed e) 0 (take l.n l.triggers)
