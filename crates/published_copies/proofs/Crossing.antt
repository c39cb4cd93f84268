-- A batch may go to another thread, and several may share it.
use denote.Param.Send.{IsSend, IsSync, sendable, view_send, view_sync}
use Rattle.std.proofs.Crossing.{crosses}
use Rattle.gt_base.proofs.Crossing.{entry_send, entry_sync}
use Rattle.published_copies.specs.contracts.batch.Batch as batch
use Rattle.published_copies.specs.contracts.batch.Batch.TheInside as inside

inside_send : IsSend inside.the_row
inside_send = search (entry_send, entry_sync, sendable, crosses) depth 40

pub batch_send : IsSend batch.the_row
batch_send = view_send inside.the_row _ _ _ _ inside_send

inside_sync : IsSync inside.the_row
inside_sync = search (entry_send, entry_sync, sendable, crosses) depth 40

pub batch_sync : IsSync batch.the_row
batch_sync = view_sync inside.the_row _ _ _ _ inside_sync
