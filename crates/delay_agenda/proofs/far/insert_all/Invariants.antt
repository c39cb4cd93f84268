use Rattle.std.proofs.Common.{◌≡◌, ◌≤◌, true, take}
use Rattle.gt_base.specs.Sets.{has}
use Rattle.delay_agenda.specs.declared.pairs.Pending.{Pending}
use Rattle.delay_agenda.specs.Far.{all_over}
use Rattle.delay_agenda.specs.Rows.{stands_in}
use Rattle.delay_agenda.proofs.far.insert_all.Given as goal

-- those so far are near
abbrev pub invariant-loop-p : goal.invariant-loop-p
invariant-loop-p l =
    record {
      set : all_over l.near.set l.far ≡ all_over l.initial.near.set l.far;
      near : (q : Pending) → stands_in (take l.p-index l.far) q ≡ true → q.due ≤ l.to → has l.near.set q ≡ true;
      spare : l.near.spare ≡ l.initial.near.spare;
    }
