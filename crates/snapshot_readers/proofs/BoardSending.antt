-- A board may go to another thread.
use denote.RattleType.{RattleType}
use denote.Ref.{NamedLft}
use denote.Param.Send.{IsSend, IsSync, sendable, view_send, recorded_send, struct_send}
use denote.Struct.Declared.{shape}
use Rattle.std.proofs.Crossing.{crosses, frees}
use Rattle.std.proofs.alloc.Global.TheSendSync as heap_crosses
use Rattle.left_right.proofs.writer.Writer.TheSendSync as writer
use Rattle.std.specs.contracts.alloc.Global as heap
use Rattle.std.specs.contracts.impls.GlobalAllocator.TheImpl as heap_impl
use Rattle.std.proofs.Common.{List}
use Rattle.gt_base.specs.declared.requests.Entry.{Entry}
use Rattle.published_copies.specs.contracts.batch.Batch as batch
use Rattle.published_copies.proofs.Crossing.{batch_send}
use Rattle.left_right.specs.declared.Absorb as absorb
use Rattle.published_copies.specs.contracts.views.ReaderView as view
use Rattle.published_copies.specs.contracts.views.Growing as growing
use Rattle.published_copies.specs.contracts.copies.Copies as copies
use Rattle.published_copies.specs.contracts.copies.Copies.TheInside as copies_inside
use Rattle.published_copies.specs.declared.replica.Replica as replica
use Rattle.published_copies.specs.Views.{Shows, blank}
use Rattle.snapshot_readers.specs.contracts.book_copy.BookCopy as copy
use Rattle.snapshot_readers.specs.contracts.book_copy.BookCopy.TheInside as copy_inside
use Rattle.snapshot_readers.proofs.GlassSending.{copy_sync}
use Rattle.gt_base.proofs.Crossing.{base_send}
use Rattle.snapshot_readers.proofs.BookCrossing.{book_send, ledger_send}
use Rattle.snapshot_readers.specs.contracts.board.Board as board
use Rattle.snapshot_readers.specs.contracts.board.Board.TheInside as board_inside

copy_inside_send : IsSend copy_inside.the_row
copy_inside_send = search (book_send, batch_send, base_send, sendable, crosses) depth 40

copy_send : IsSend copy.the_row
copy_send = view_send copy_inside.the_row _ _ _ _ copy_inside_send

copies_inside_send : (T R S : RattleType) (a : absorb.Ghosts T.Denot (List Entry) S.Denot)
    (r : replica.Ghosts T.Denot R.Denot S.Denot) → IsSend T → IsSync T
    → IsSend (copies_inside.the_row T R S a r)
copies_inside_send T R S a r s y =
    recorded_send (copies_inside.the_field T R S a r).row _ _ (copies_inside.the_type T R S a r).to_one
    (struct_send (shape (copies_inside.the_type T R S a r)) (
      writer.the_field_send T batch.the_row (view.the_row R) growing.the_row heap.the_row S a
          (record { holds = λ p. Shows (r.sound (a.state p)) (r.root (a.state p)) (r.list (a.state p)); first = blank })
          heap_impl.ghosts s batch_send heap_crosses.the_send y heap_crosses.the_sync frees,
      (search (sendable, crosses) depth 40, (search (sendable, crosses) depth 40, tt)),
    ))

copies_send : (T R S : RattleType) (a : absorb.Ghosts T.Denot (List Entry) S.Denot)
    (r : replica.Ghosts T.Denot R.Denot S.Denot) → IsSend T → IsSync T
    → IsSend (copies.the_row T R S a r)
copies_send T R S a r s y = view_send (copies_inside.the_row T R S a r) _ _ _ _ (copies_inside_send T R S a r s y)

board_inside_send : (a : NamedLft) (R : RattleType) → IsSync R → IsSend (board_inside.the_row a R)
board_inside_send a R s =
    recorded_send (board_inside.the_field a R).row _ _ (board_inside.the_type a R).to_one
    (struct_send (shape (board_inside.the_type a R)) (
      search (sendable, crosses) depth 40,
      (
        ledger_send,
        (search (copies_send, copy_send, copy_sync) depth 40, (search (sendable, crosses) depth 40, tt)),
      ),
    ))

pub board_send : (a : NamedLft) (R : RattleType) → IsSync R → IsSend (board.the_row a R)
board_send a R s = view_send (board_inside.the_row a R) _ _ _ _ (board_inside_send a R s)
