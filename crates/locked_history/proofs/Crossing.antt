-- A desk may be shared among threads, where its machine may be sent.
use denote.RattleType.{RattleType}
use denote.Param.Send.{IsSend, IsSync, sendable, view_sync}
use Rattle.gt_base.specs.declared.machines.Keeps.{Ghosts}
use Rattle.gt_base.specs.declared.machines.Machine as machine
use Rattle.turn_lock.proofs.Crossing.{lock_sync}
use Rattle.locked_history.specs.contracts.desk.Desk as desk
use Rattle.locked_history.specs.contracts.desk.Desk.TheInside as desk_inside

desk_inside_sync : (M : RattleType) (m : machine.Ghosts M.Denot) (g : Ghosts M.Denot) → IsSend M → IsSync (desk_inside.the_row M m g)
desk_inside_sync M m g s = search (lock_sync, sendable) depth 40

pub desk_sync : (M : RattleType) (m : machine.Ghosts M.Denot) (g : Ghosts M.Denot) → IsSend M → IsSync (desk.the_row M m g)
desk_sync M m g s = view_sync (desk_inside.the_row M m g) _ _ _ _ (desk_inside_sync M m g s)
