use Rattle.std.proofs.Common.{◌≡◌, ◌≤◌, ◌+◌, ◌||◌, length, take}
use Rattle.std.specs.List.{list_any}
use Rattle.std.specs.Ordering.{eq_by_cmp}
use Rattle.gt_base.specs.declared.events.Prioritised.{Prioritised}
use Rattle.gt_base.specs.Orders.{prioritised_cmp}
use Rattle.gt_base.specs.Sets.{has}
use Rattle.why_check.proofs.showing.add_events.Given as goal

-- the events so far have joined
abbrev pub invariant-loop-e : goal.invariant-loop-e
invariant-loop-e l =
    record {
      room : length l.events ≤ l.into.spare + l.e-index;
      signals : l.into.set.signals ≡ l.initial.into.set.signals;
      events : (e : Prioritised) → has l.into.set.events e ≡ (has l.initial.into.set.events e || list_any (eq_by_cmp prioritised_cmp e) (take l.e-index l.events));
    }
