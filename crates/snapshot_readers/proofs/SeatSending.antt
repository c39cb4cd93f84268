-- A seat may go to another thread, where its parts may.
use denote.RattleType.{RattleType}
use denote.Builtin.{u64}
use denote.Param.Send.{IsSend, sendable, recorded_send, struct_send}
use denote.Struct.Declared.{shape}
use denote.Struct.Struct.{Struct}
use Rattle.gt_base.proofs.Crossing.{list_send}
use Rattle.snapshot_readers.specs.contracts.ends.Viewed as viewed
use Rattle.snapshot_readers.specs.contracts.viewers.Viewer as viewer
use Rattle.snapshot_readers.proofs.GlassSending.{glass_send}
use Rattle.snapshot_readers.specs.contracts.seats.ViewerSeat as seat
use Rattle.gt_base.specs.contracts.lists.List as list

numbers_send : IsSend (list.the_row u64)
numbers_send = list_send u64 (search sendable)

viewed_send : (L : RattleType) → IsSend L → IsSend (viewed.the_row L)
viewed_send L s = search (numbers_send, sendable) depth 30

viewer_send : (D G L : RattleType) → IsSend D → IsSend G → IsSend L → IsSend (Struct (shape (viewer.the_type D G L)))
viewer_send D G L d h l =
    struct_send (shape (viewer.the_type D G L)) (d, (h, (list_send (viewed.the_row L) (viewed_send L l), (search sendable depth 30, tt))))

seat_send : (D G L : RattleType) → IsSend D → IsSend G → IsSend L → IsSend (Struct (shape (seat.the_type D G L)))
seat_send D G L d h l =
    struct_send (shape (seat.the_type D G L)) (viewer_send D G L d h l, (glass_send, (search sendable depth 30, (search sendable depth 30, tt))))

pub seat_row_send : (D G L : RattleType) → IsSend D → IsSend G → IsSend L → IsSend (seat.the_row D G L)
seat_row_send D G L d h l =
    recorded_send (seat.the_field D G L).row _ _ (seat.the_type D G L).to_one (seat_send D G L d h l)
