use Rattle.std.proofs.Common.{◌≡◌, ◌≤◌, ◌+◌, ◌||◌, length, take}
use Rattle.std.specs.List.{list_any}
use Rattle.std.specs.Ordering.{eq_by_cmp}
use Rattle.gt_base.specs.Sets.{has}
use Rattle.delay_agenda.specs.Due.{pending_cmp}
use Rattle.delay_agenda.specs.declared.pairs.Pending.{Pending}
use Rattle.time_engine.proofs.closing.put_all.Given as goal

-- the pairs so far have joined
abbrev pub invariant-loop-q : goal.invariant-loop-q
invariant-loop-q l =
    record {
      room : length l.pairs ≤ l.pending.spare + l.q-index;
      pairs : (q : Pending) → has l.pending.set q ≡ (has l.initial.pending.set q || list_any (eq_by_cmp pending_cmp q) (take l.q-index l.pairs));
    }
