use Rattle.std.proofs.Common.{◌≡◌, ◌≤◌, ◌+◌, length, take}
use Rattle.gt_base.specs.declared.events.Fluent.{Fluent}
use Rattle.gt_base.specs.Sets.{has}
use Rattle.priority_conflict.proofs.OverLaws.{over}
use Rattle.priority_conflict.proofs.conflicts.next_status.Given as goal

-- the status after the winners so far
abbrev pub invariant-loop-e : goal.invariant-loop-e
invariant-loop-e l =
    record {
      room : length l.e-items ≤ l.s.spare + l.e-index;
      spare : l.initial.s.spare ≤ l.s.spare + l.e-index;
      status : (f : Fluent) → has l.s.set f ≡ over (take l.e-index l.e-items) f (has l.initial.s.set f);
    }
