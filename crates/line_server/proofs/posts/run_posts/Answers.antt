use denote.Param.Send.{sendable}
use Rattle.locked_history.proofs.Crossing.{desk_sync}
use Rattle.policy_book.proofs.Crossing.{policy_sync}
use Rattle.line_server.proofs.Crossing.{post_row_send, heap_sync}
use Rattle.line_server.proofs.posts.run_posts.Goals as goal

pub for_each_mut-requires-send-T : goal.for_each_mut-requires-send-T
for_each_mut-requires-send-T g c κs within = search (post_row_send, sendable) depth 40

pub for_each_mut-requires-sync-F : goal.for_each_mut-requires-sync-F
for_each_mut-requires-sync-F g c κs within = search (desk_sync, policy_sync, heap_sync, sendable) depth 40
