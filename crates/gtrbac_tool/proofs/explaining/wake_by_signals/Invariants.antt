use Rattle.std.proofs.Common.{◌≡◌, ◌++◌, take, flat_map}
use Rattle.trigger_rules.specs.Indexed.{with_signal}
use Rattle.gtrbac_tool.proofs.explaining.wake_by_signals.Given as goal

-- the triggers so far
abbrev pub invariant-loop-s : goal.invariant-loop-s
invariant-loop-s l = l.pending.items ≡ l.initial.pending.items ++ flat_map (with_signal l.rules) (take l.s-index l.signals)
