use Rattle.std.proofs.Common.{◌≡◌, ◌+◌, ◌≤◌, ◌||◌, length}
use Rattle.gt_base.specs.declared.events.Prioritised.{Prioritised}
use Rattle.gt_base.specs.Sets.{has}
use Rattle.delay_agenda.specs.Due.{pending_at, count_due}
use Rattle.delay_agenda.specs.Far.{all_over}
use Rattle.delay_agenda.proofs.far.tell_all.Given as goal

-- what is left is yet to come
abbrev pub invariant-loop-rest : goal.invariant-loop-rest
invariant-loop-rest l =
    record {
      spare : l.initial.into.spare + count_due (all_over l.near.set l.rest) l.t ≤ l.into.spare + count_due (all_over l.near.set l.far) l.t;
      signals : l.into.set.signals ≡ l.initial.into.set.signals;
      events : (e : Prioritised) → (has l.into.set.events e || has (all_over l.near.set l.rest) (pending_at l.t e))
          ≡ (has l.initial.into.set.events e || has (all_over l.near.set l.far) (pending_at l.t e));
    }

abbrev pub decreases-loop-rest : goal.decreases-loop-rest
decreases-loop-rest l = length l.rest
