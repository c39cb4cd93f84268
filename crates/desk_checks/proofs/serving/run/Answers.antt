use denote.Param.Send.{sendable}
use Rattle.turn_lock.proofs.Crossing.{pass_send}
use Rattle.locked_history.proofs.Crossing.{desk_sync}
use Rattle.desk_checks.proofs.serving.run.Goals as goal

pub for_each_mut-requires-send-T : goal.for_each_mut-requires-send-T
for_each_mut-requires-send-T g c κs within = search (pass_send, sendable) depth 40

pub for_each_mut-requires-sync-F : goal.for_each_mut-requires-sync-F
for_each_mut-requires-sync-F g c κs within = search (desk_sync, sendable) depth 40
