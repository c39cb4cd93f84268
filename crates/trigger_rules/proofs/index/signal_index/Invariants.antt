use Rattle.std.proofs.Common.{◌≡◌, take}
use Rattle.gt_base.specs.declared.events.Signal.{Signal}
use Rattle.indexmap.specs.IndexMap.{get}
use Rattle.trigger_rules.specs.Indexed.{signal_eq, with_signal, under}
use Rattle.trigger_rules.proofs.index.signal_index.Given as goal

-- the triggers so far are there
abbrev pub invariant-loop-n : goal.invariant-loop-n
invariant-loop-n l = (s : Signal) → under (get signal_eq l.index s) (λ v. v.items) ≡ with_signal (take l.n l.triggers) s
