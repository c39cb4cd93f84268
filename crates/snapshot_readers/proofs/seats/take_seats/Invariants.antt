use Rattle.std.proofs.Common.{◌≡◌, ◌+◌, ◌≤◌, ◌++◌, length, reverse, vec_len, vec_capacity}
use Rattle.std.specs.Prelude.{All}
use Rattle.snapshot_readers.specs.Seats.{glasses_of, viewers_of}
use Rattle.snapshot_readers.proofs.seats.take_seats.Given as goal

abbrev pub invariant-loop-glass : goal.invariant-loop-glass
invariant-loop-glass g l =
    record {
      glasses : l.glasses.items ++ reverse (glasses_of l.seats.items) ≡ l.fn.glasses.items;
      viewers : l.viewers.items ++ reverse (viewers_of l.seats.items) ≡ l.fn.viewers.items;
      pairs : length l.glasses.items ≡ length l.viewers.items;
      few : length l.viewers.items ≤ 8;
      room : length l.viewers.items + vec_len l.seats ≤ vec_capacity l.seats;
      kept : vec_capacity l.viewers ≡ vec_capacity l.fn.viewers;
      numbers : All (λ s. s.number ≤ 7) l.seats.items;
    }

abbrev pub decreases-loop-glass : goal.decreases-loop-glass
decreases-loop-glass g l = length l.glasses.items
