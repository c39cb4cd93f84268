use denote.Param.Send.{sendable}
use Rattle.std.proofs.Crossing.{crosses}
use Rattle.locked_history.proofs.Crossing.{desk_sync}
use Rattle.policy_book.proofs.Crossing.{policy_sync}
use Rattle.line_server.proofs.Crossing.{post_row_send, heap_sync}
use Rattle.snapshot_readers.proofs.SeatSending.{seat_row_send}
use Rattle.gtrbac_daemon.proofs.views_serving.run_both.Goals as goal

pub both-requires-send-A : goal.both-requires-send-A
both-requires-send-A g c κs within = search (post_row_send, crosses, sendable) depth 40

pub both-requires-send-B : goal.both-requires-send-B
both-requires-send-B g c κs within = search (seat_row_send, crosses, sendable) depth 40

pub both-requires-sync-F : goal.both-requires-sync-F
both-requires-sync-F g c κs within = search (desk_sync, policy_sync, heap_sync, sendable) depth 40
