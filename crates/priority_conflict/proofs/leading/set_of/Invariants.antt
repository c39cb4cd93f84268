use Rattle.std.proofs.Common.{◌≡◌, ◌≤◌, ◌+◌, length, take}
use Rattle.gt_base.specs.declared.events.Event.{Event}
use Rattle.gt_base.specs.Sets.{has}
use Rattle.gtrbac_model.specs.Same.{lists, same_event}
use Rattle.priority_conflict.proofs.leading.set_of.Given as goal

-- the events so far
abbrev pub invariant-loop-e : goal.invariant-loop-e
invariant-loop-e l =
    record {
      room : length l.events ≤ l.set.spare + l.e-index;
      listed : (e : Event) → has l.set.set e ≡ lists same_event (take l.e-index l.events) e;
    }
