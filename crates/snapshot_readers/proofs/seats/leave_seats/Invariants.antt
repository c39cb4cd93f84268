use Rattle.std.proofs.Common.{◌≡◌, ◌+◌, ◌≤◌, ◌++◌, reverse, vec_len, vec_capacity}
use Rattle.snapshot_readers.specs.Seats.{viewers_of}
use Rattle.snapshot_readers.proofs.seats.leave_seats.Given as goal

abbrev pub invariant-loop-seat : goal.invariant-loop-seat
invariant-loop-seat g l =
    record {
      viewers : l.viewers.items ++ reverse (viewers_of l.seats.items) ≡ reverse (viewers_of l.fn.seats.items);
      room : vec_len l.viewers + vec_len l.seats ≤ vec_capacity l.viewers;
    }

abbrev pub decreases-loop-seat : goal.decreases-loop-seat
decreases-loop-seat g l = vec_len l.seats
