use Rattle.std.proofs.Common.{◌≡◌, ◌++◌, take, flat_map}
use Rattle.trigger_rules.specs.Indexed.{with_signal}
use Rattle.instant_engine.proofs.settling.add_by_signals.Given as goal

-- the triggers so far
abbrev pub invariant-loop-s : goal.invariant-loop-s
invariant-loop-s l = l.waiting.items ≡ l.initial.waiting.items ++ flat_map (with_signal l.r) (take l.s-index l.signals)
