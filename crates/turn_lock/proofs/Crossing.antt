-- A pass may go to another thread, and a lock may be shared, where its value may.
use denote.RattleType.{RattleType}
use denote.Param.Send.{IsSend, IsSync, sendable, view_send, view_sync, recorded_sync, struct_sync}
use denote.Struct.Declared.{shape}
use Rattle.gt_base.specs.declared.machines.Keeps.{Ghosts}
use Rattle.turn_lock.specs.contracts.pass.Pass as pass
use Rattle.turn_lock.specs.contracts.pass.Pass.TheInside as pass_inside
use Rattle.turn_lock.specs.contracts.lock.TurnLock as lock
use Rattle.turn_lock.specs.contracts.lock.TurnLock.TheInside as lock_inside
use Rattle.turn_lock.specs.contracts.view.Spot as spot
use Rattle.turn_lock.specs.contracts.view.SeatView as view
use Rattle.turn_lock.specs.contracts.view.Origin as origin
use Rattle.turn_lock.specs.contracts.rule.Turns as turns
use Rattle.turn_lock.specs.contracts.rule.TurnsTableRuleSpotSeatViewOrigin.TheImpl as rule
use Rattle.std.specs.contracts.alloc.Global as heap
use Rattle.std.specs.contracts.impls.GlobalAllocator.TheImpl as heap_impl
use Rattle.atomic_table.proofs.shared.Seat.TheSendSync as seat
use Rattle.atomic_table.proofs.owned.Table.TheSendSync as table
use Rattle.std.proofs.Crossing.{crosses, frees}
use Rattle.std.proofs.alloc.Global.TheSendSync as heap_crosses

spot_send : (M : RattleType) → IsSend M → IsSend (spot.the_row M)
spot_send M s = search (sendable, crosses) depth 30

pass_inside_send : (M : RattleType) → IsSend M → IsSend (pass_inside.the_row M)
pass_inside_send M s = search (sendable, seat.the_send, spot_send) depth 30

pub pass_send : (M : RattleType) → IsSend M → IsSend (pass.the_row M)
pass_send M s = view_send (pass_inside.the_row M) _ _ _ _ (pass_inside_send M s)

lock_inside_sync : (M : RattleType) (g : Ghosts M.Denot) → IsSend M → IsSync (lock_inside.the_row M g)
lock_inside_sync M g s = recorded_sync (lock_inside.the_field M g).row _ _ (lock_inside.the_type M g).to_one (struct_sync (shape (lock_inside.the_type M g)) (table.the_field_sync (spot.the_row M) (view.the_row M) (origin.the_row M) (turns.the_row M) heap.the_row (rule.ghosts M g rule.no_dict) heap_impl.ghosts (spot_send M s) heap_crosses.the_send heap_crosses.the_sync frees, tt))

pub lock_sync : (M : RattleType) (g : Ghosts M.Denot) → IsSend M → IsSync (lock.the_row M g)
lock_sync M g s = view_sync (lock_inside.the_row M g) _ _ _ _ (lock_inside_sync M g s)
