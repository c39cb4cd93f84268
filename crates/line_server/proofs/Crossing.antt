-- What may go to another thread.
use denote.RattleType.{RattleType}
use denote.Param.Send.{IsSend, IsSync, sendable, recorded_send, struct_send}
use denote.Struct.Declared.{shape}
use denote.Struct.Struct.{Struct}
use Rattle.gt_base.proofs.Crossing.{list_send}
use Rattle.turn_lock.proofs.Crossing.{pass_send}
use Rattle.std.specs.contracts.alloc.Global as heap
use Rattle.std.proofs.alloc.Global.TheSendSync as heap_crosses
use Rattle.line_server.specs.contracts.ended.Served as served
use Rattle.line_server.specs.contracts.workers.Worker as worker
use Rattle.line_server.specs.contracts.posts.Post as post

pub heap_sync : IsSync heap.the_row
heap_sync = heap_crosses.the_sync

worker_send : (D C G L : RattleType) → IsSend D → IsSend C → IsSend G → IsSend L → IsSend (Struct (shape (worker.the_type D C G L)))
worker_send D C G L d k h l = struct_send (shape (worker.the_type D C G L)) (d, (k, (h, (list_send (served.the_row L) (search sendable depth 30), (search sendable depth 30, tt)))))

-- a post may go to another thread, where its parts may
pub post_send : (M D C G L : RattleType) → IsSend M → IsSend D → IsSend C → IsSend G → IsSend L → IsSend (Struct (shape (post.the_type M D C G L)))
post_send M D C G L m d k h l = struct_send (shape (post.the_type M D C G L)) (worker_send D C G L d k h l, (pass_send M m, tt))

pub post_row_send : (M D C G L : RattleType) → IsSend M → IsSend D → IsSend C → IsSend G → IsSend L → IsSend (post.the_row M D C G L)
post_row_send M D C G L m d k h l = recorded_send (post.the_field M D C G L).row _ _ (post.the_type M D C G L).to_one (post_send M D C G L m d k h l)
