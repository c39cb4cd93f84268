use denote.Param.Send.{sendable}
use Rattle.std.proofs.Crossing.{crosses}
use Rattle.policy_book.proofs.Crossing.{policy_sync}
use Rattle.snapshot_readers.proofs.SeatSending.{seat_row_send}
use Rattle.snapshot_readers.proofs.seats.run_seats.Goals as goal

pub for_each_mut-requires-send-T : goal.for_each_mut-requires-send-T
for_each_mut-requires-send-T g c κs within = search (seat_row_send, sendable) depth 40

pub for_each_mut-requires-sync-F : goal.for_each_mut-requires-sync-F
for_each_mut-requires-sync-F g c κs within = search (policy_sync, crosses, sendable) depth 40
