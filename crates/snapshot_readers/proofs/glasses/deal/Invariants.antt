use Rattle.std.proofs.Common.{◌≡◌, ◌+◌, ◌≤◌, replicate}
use Rattle.snapshot_readers.specs.Glazed.{fresh_glass}
use Rattle.snapshot_readers.proofs.glasses.deal.Given as goal

abbrev pub invariant-loop : goal.invariant-loop
invariant-loop l =
    record {
      copies : l.copies ≡ l.fn.copies;
      made : l.glasses.items ≡ replicate l.counter (fresh_glass l.policy l.birth);
      room : l.viewers ≤ l.counter + l.glasses.spare;
    }
