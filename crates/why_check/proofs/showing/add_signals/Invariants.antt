use Rattle.std.proofs.Common.{◌≡◌, ◌≤◌, ◌+◌, ◌||◌, length, take}
use Rattle.std.specs.List.{list_any}
use Rattle.std.specs.Ordering.{eq_by_cmp}
use Rattle.gt_base.specs.declared.events.Signal.{Signal}
use Rattle.gt_base.specs.Orders.{signal_cmp}
use Rattle.gt_base.specs.Sets.{has}
use Rattle.why_check.proofs.showing.add_signals.Given as goal

-- the signals so far have joined
abbrev pub invariant-loop-x : goal.invariant-loop-x
invariant-loop-x l =
    record {
      room : length l.signals ≤ l.into.spare + l.x-index;
      events : l.into.set.events ≡ l.initial.into.set.events;
      signals : (e : Signal) → has l.into.set.signals e ≡ (has l.initial.into.set.signals e || list_any (eq_by_cmp signal_cmp e) (take l.x-index l.signals));
    }
