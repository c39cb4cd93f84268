-- A glass may go to another thread.
use denote.RattleType.{RattleType}
use denote.Param.Send.{IsSend, IsSync, sendable, view_send, view_sync, recorded_send, struct_send}
use denote.Struct.Declared.{shape}
use Rattle.std.proofs.Crossing.{crosses, frees}
use Rattle.std.proofs.alloc.Global.TheSendSync as heap_crosses
use Rattle.left_right.proofs.reader.Reader.TheSendSync as reader
use Rattle.std.specs.contracts.alloc.Global as heap
use Rattle.std.specs.contracts.impls.GlobalAllocator.TheImpl as heap_impl
use Rattle.published_copies.specs.contracts.views.ReaderView as view
use Rattle.published_copies.specs.contracts.views.Growing as growing
use Rattle.published_copies.specs.Views.{Shows, blank}
use Rattle.snapshot_readers.specs.contracts.book_copy.BookCopy as copy
use Rattle.snapshot_readers.specs.contracts.book_copy.BookCopy.TheInside as copy_inside
use Rattle.snapshot_readers.specs.contracts.glass.Glass as glass
use Rattle.snapshot_readers.specs.contracts.glass.Glass.TheInside as glass_inside
use Rattle.std.proofs.Common.{List}
use Rattle.gt_base.specs.declared.requests.Entry.{Entry}
use Rattle.left_right.specs.declared.Absorb as absorb
use Rattle.published_copies.specs.declared.replica.Replica as replica
use Rattle.published_copies.specs.contracts.looking.Sight as sight
use Rattle.published_copies.specs.contracts.looking.Sight.TheInside as sight_inside
use Rattle.gt_base.proofs.Crossing.{base_sync}
use Rattle.published_copies.proofs.Crossing.{batch_sync}
use Rattle.snapshot_readers.proofs.BookCrossing.{book_sync}

copy_inside_sync : IsSync copy_inside.the_row
copy_inside_sync = search (book_sync, batch_sync, base_sync, sendable, crosses) depth 40

pub copy_sync : IsSync copy.the_row
copy_sync = view_sync copy_inside.the_row _ _ _ _ copy_inside_sync

sight_inside_send : (T R S : RattleType) (r : replica.Ghosts T.Denot R.Denot S.Denot) (a : absorb.Ghosts T.Denot (List Entry) S.Denot) → IsSync T → IsSend (sight_inside.the_row T R S r a)
sight_inside_send T R S r a s =
    recorded_send (sight_inside.the_field T R S r a).row _ _ (sight_inside.the_type T R S r a).to_one (struct_send (shape (sight_inside.the_type T R S r a)) (reader.the_field_send T (view.the_row R) growing.the_row heap.the_row (record { holds = λ p. Shows (r.sound (a.state p)) (r.root (a.state p)) (r.list (a.state p)); first = blank }) heap_impl.ghosts heap_crosses.the_send s heap_crosses.the_sync frees, tt))

sight_send : (T R S : RattleType) (r : replica.Ghosts T.Denot R.Denot S.Denot) (a : absorb.Ghosts T.Denot (List Entry) S.Denot) → IsSync T → IsSend (sight.the_row T R S r a)
sight_send T R S r a s = view_send (sight_inside.the_row T R S r a) _ _ _ _ (sight_inside_send T R S r a s)

glass_inside_send : IsSend glass_inside.the_row
glass_inside_send =
    recorded_send glass_inside.the_field.row _ _ glass_inside.the_type.to_one
    (struct_send (shape glass_inside.the_type) (search (sight_send, copy_sync) depth 40, (search (sendable, crosses) depth 40, (search (sendable, crosses) depth 40, tt))))

pub glass_send : IsSend glass.the_row
glass_send = view_send glass_inside.the_row _ _ _ _ glass_inside_send
