use Rattle.std.proofs.Common.{◌≡◌, ◌++◌, take, flat_map}
use Rattle.trigger_rules.specs.Indexed.{with_event}
use Rattle.instant_engine.proofs.settling.add_by_events.Given as goal

-- the triggers so far
abbrev pub invariant-loop-o : goal.invariant-loop-o
invariant-loop-o l = l.waiting.items ≡ l.initial.waiting.items ++ flat_map (λ o. with_event l.r o.event) (take l.o-index l.events)
