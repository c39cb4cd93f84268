use Rattle.std.proofs.Common.{◌≡◌, ◌++◌, take, map}
use Rattle.policy_text.specs.Sections.{signal_item}
use Rattle.policy_text.proofs.rules.add_signals.Given as goal

abbrev pub invariant-loop-signal : goal.invariant-loop-signal
invariant-loop-signal l = l.items.items ≡ l.fn.items.items ++ map (signal_item l.p.names) (take l.signal-index l.signals)
