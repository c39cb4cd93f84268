-- An agenda may go to another thread, and several may share it.
use denote.Builtin.{unit}
use denote.Param.Send.{IsSend, IsSync, sendable, view_send, view_sync, recorded_send, recorded_sync, struct_send, struct_sync}
use denote.Struct.Declared.{shape}
use Rattle.std.proofs.Crossing.{crosses, frees, send, sync}
use Rattle.std.specs.contracts.alloc.Global as Heap
use Rattle.std.specs.contracts.impls.GlobalAllocator.TheImpl as heap
use Rattle.std_collections.proofs.Crosses.{BTreeMap-send, BTreeMap-sync}
use Rattle.std_collections.specs.contracts.btree_set.BTreeSet.TheInside as tree
use Rattle.delay_agenda.specs.contracts.pairs.Pending as pending
use Rattle.delay_agenda.specs.contracts.pairs.PendingOrd.TheImpl as order
use Rattle.delay_agenda.specs.contracts.pairs.PendingPartialEq.TheImpl as equality
use Rattle.delay_agenda.specs.contracts.pairs.PendingPartialOrd.TheImpl as partial
use Rattle.delay_agenda.specs.contracts.near.Near as near
use Rattle.delay_agenda.specs.contracts.near.Near.TheInside as inside
use Rattle.delay_agenda.specs.contracts.agendas.Agenda as agenda
use Rattle.delay_agenda.specs.contracts.agendas.Agenda.TheInside as whole

pending_send : IsSend pending.the_row
pending_send = search (sendable, crosses) depth 40

tree_send : IsSend (tree.the_row pending.the_row Heap.the_row order.ghosts equality.ghosts partial.ghosts heap.ghosts)
tree_send =
    recorded_send (tree.the_field pending.the_row Heap.the_row order.ghosts equality.ghosts partial.ghosts heap.ghosts).row _ _ (tree.the_type pending.the_row Heap.the_row order.ghosts equality.ghosts partial.ghosts heap.ghosts).to_one
    (struct_send (shape (tree.the_type pending.the_row Heap.the_row order.ghosts equality.ghosts partial.ghosts heap.ghosts)) (BTreeMap-send pending.the_row unit Heap.the_row order.ghosts equality.ghosts partial.ghosts heap.ghosts pending_send (search sendable) send frees, tt))

inside_send : IsSend inside.the_row
inside_send =
    recorded_send inside.the_field.row _ _ inside.the_type.to_one
    (struct_send (shape inside.the_type) (view_send (tree.the_row pending.the_row Heap.the_row order.ghosts equality.ghosts partial.ghosts heap.ghosts) _ _ _ _ tree_send, (search (pending_send, sendable, crosses) depth 40, tt)))

near_send : IsSend near.the_row
near_send = view_send inside.the_row _ _ _ _ inside_send

whole_send : IsSend whole.the_row
whole_send =
    recorded_send whole.the_field.row _ _ whole.the_type.to_one
    (struct_send (shape whole.the_type) (near_send, (search (pending_send, sendable, crosses) depth 40, (search (sendable, crosses) depth 40, tt))))

pub agenda_send : IsSend agenda.the_row
agenda_send = view_send whole.the_row _ _ _ _ whole_send

pending_sync : IsSync pending.the_row
pending_sync = search (sendable, crosses) depth 40

tree_sync : IsSync (tree.the_row pending.the_row Heap.the_row order.ghosts equality.ghosts partial.ghosts heap.ghosts)
tree_sync =
    recorded_sync (tree.the_field pending.the_row Heap.the_row order.ghosts equality.ghosts partial.ghosts heap.ghosts).row _ _ (tree.the_type pending.the_row Heap.the_row order.ghosts equality.ghosts partial.ghosts heap.ghosts).to_one
    (struct_sync (shape (tree.the_type pending.the_row Heap.the_row order.ghosts equality.ghosts partial.ghosts heap.ghosts)) (BTreeMap-sync pending.the_row unit Heap.the_row order.ghosts equality.ghosts partial.ghosts heap.ghosts pending_sync (search sendable) sync, tt))

inside_sync : IsSync inside.the_row
inside_sync =
    recorded_sync inside.the_field.row _ _ inside.the_type.to_one
    (struct_sync (shape inside.the_type) (view_sync (tree.the_row pending.the_row Heap.the_row order.ghosts equality.ghosts partial.ghosts heap.ghosts) _ _ _ _ tree_sync, (search (pending_sync, sendable, crosses) depth 40, tt)))

near_sync : IsSync near.the_row
near_sync = view_sync inside.the_row _ _ _ _ inside_sync

whole_sync : IsSync whole.the_row
whole_sync =
    recorded_sync whole.the_field.row _ _ whole.the_type.to_one
    (struct_sync (shape whole.the_type) (near_sync, (search (pending_sync, sendable, crosses) depth 40, (search (sendable, crosses) depth 40, tt))))

pub agenda_sync : IsSync agenda.the_row
agenda_sync = view_sync whole.the_row _ _ _ _ whole_sync
