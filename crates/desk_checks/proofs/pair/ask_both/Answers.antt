use denote.Param.Send.{sendable}
use Rattle.turn_lock.proofs.Crossing.{pass_send}
use Rattle.locked_history.proofs.Crossing.{desk_sync}
use Rattle.desk_checks.proofs.pair.ask_both.Goals as goal

pub join-requires-send-F : goal.join-requires-send-F
join-requires-send-F g c κs within = search (pass_send, desk_sync, sendable) depth 40

pub join-requires-send-A : goal.join-requires-send-A
join-requires-send-A g c κs within = search (pass_send, sendable) depth 40
