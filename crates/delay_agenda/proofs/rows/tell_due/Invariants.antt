use Rattle.std.proofs.Common.{◌≡◌, ◌≤◌, ◌+◌, ◌||◌, length, drop}
use Rattle.gt_base.specs.declared.events.Prioritised.{Prioritised}
use Rattle.gt_base.specs.Sets.{has}
use Rattle.delay_agenda.specs.Rows.{lists_event, new_due_in}
use Rattle.delay_agenda.proofs.rows.tell_due.Given as goal

-- what is left is told yet
abbrev pub invariant-loop-p : goal.invariant-loop-p
invariant-loop-p l =
    record {
      spare : l.initial.into.spare + length (new_due_in l.tree.keys (drop l.p-index l.row) l.t) ≤ l.into.spare + length (new_due_in l.tree.keys l.row l.t);
      signals : l.into.set.signals ≡ l.initial.into.set.signals;
      events : (e : Prioritised) → (has l.into.set.events e || lists_event (new_due_in l.tree.keys (drop l.p-index l.row) l.t) e)
          ≡ (has l.initial.into.set.events e || lists_event (new_due_in l.tree.keys l.row l.t) e);
    }
