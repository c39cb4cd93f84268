-- What may go to another thread, and what several may share.
use denote.RattleType.{RattleType}
use denote.Param.Send.{IsSend, IsSync, sendable, view_send, view_sync, recorded_send, recorded_sync, struct_send, struct_sync}
use denote.Struct.Declared.{shape}
use Rattle.std.proofs.Crossing.{crosses}
use Rattle.gt_base.specs.contracts.lists.List as list
use Rattle.gt_base.specs.contracts.lists.List.TheInside as list_inside
use Rattle.gt_base.specs.contracts.names.Name as name
use Rattle.gt_base.specs.contracts.policies.Trigger as trigger
use Rattle.gt_base.specs.contracts.policies.Trigger.TheInside as trigger_inside
use Rattle.gt_base.specs.contracts.policies.Walk as walk
use Rattle.gt_base.specs.contracts.policies.Walk.TheInside as walk_inside
use Rattle.gt_base.specs.contracts.sets.Status as status
use Rattle.gt_base.specs.contracts.sets.Happened as happened
use Rattle.gt_base.specs.contracts.requests.Decision as decision
use Rattle.gt_base.specs.contracts.requests.Reply as reply
use Rattle.gt_base.specs.contracts.requests.Request as request
use Rattle.gt_base.specs.contracts.requests.Step as step
use Rattle.gt_base.specs.contracts.requests.Entry as entry

list_inside_send : (T : RattleType) → IsSend T → IsSend (list_inside.the_row T)
list_inside_send T s = search (sendable, crosses) depth 30

-- a list may, where its items may
pub list_send : (T : RattleType) → IsSend T → IsSend (list.the_row T)
list_send T s = view_send (list_inside.the_row T) _ _ _ _ (list_inside_send T s)

list_inside_sync : (T : RattleType) → IsSync T → IsSync (list_inside.the_row T)
list_inside_sync T s = search (sendable, crosses) depth 30

pub list_sync : (T : RattleType) → IsSync T → IsSync (list.the_row T)
list_sync T s = view_sync (list_inside.the_row T) _ _ _ _ (list_inside_sync T s)

pub name_send : IsSend name.the_row
name_send = search (sendable, crosses) depth 40

pub name_sync : IsSync name.the_row
name_sync = search (sendable, crosses) depth 40

pub status_send : IsSend status.the_row
status_send = search (sendable, crosses) depth 40

pub status_sync : IsSync status.the_row
status_sync = search (sendable, crosses) depth 40

pub happened_send : IsSend happened.the_row
happened_send = search (sendable, crosses) depth 40

pub happened_sync : IsSync happened.the_row
happened_sync = search (sendable, crosses) depth 40

trigger_inside_send : IsSend trigger_inside.the_row
trigger_inside_send =
    recorded_send trigger_inside.the_field.row _ _ trigger_inside.the_type.to_one
    (struct_send (shape trigger_inside.the_type) (search (list_send, sendable, crosses) depth 40, (search (list_send, sendable, crosses) depth 40, (search (list_send, sendable, crosses) depth 40, (search (list_send, sendable, crosses) depth 40, (search (sendable, crosses) depth 40, (search (sendable, crosses) depth 40, tt)))))))

pub trigger_send : IsSend trigger.the_row
trigger_send = view_send trigger_inside.the_row _ _ _ _ trigger_inside_send

trigger_inside_sync : IsSync trigger_inside.the_row
trigger_inside_sync =
    recorded_sync trigger_inside.the_field.row _ _ trigger_inside.the_type.to_one
    (struct_sync (shape trigger_inside.the_type) (search (list_sync, sendable, crosses) depth 40, (search (list_sync, sendable, crosses) depth 40, (search (list_sync, sendable, crosses) depth 40, (search (list_sync, sendable, crosses) depth 40, (search (sendable, crosses) depth 40, (search (sendable, crosses) depth 40, tt)))))))

pub trigger_sync : IsSync trigger.the_row
trigger_sync = view_sync trigger_inside.the_row _ _ _ _ trigger_inside_sync

walk_inside_send : IsSend walk_inside.the_row
walk_inside_send = search (list_send, sendable, crosses) depth 60 fits 20000

pub walk_send : IsSend walk.the_row
walk_send = view_send walk_inside.the_row _ _ _ _ walk_inside_send

walk_inside_sync : IsSync walk_inside.the_row
walk_inside_sync = search (list_sync, sendable, crosses) depth 60 fits 20000

pub walk_sync : IsSync walk.the_row
walk_sync = view_sync walk_inside.the_row _ _ _ _ walk_inside_sync

decision_send : IsSend decision.the_field.row
decision_send = search (walk_send, sendable) depth 60 fits 20000

decision_sync : IsSync decision.the_field.row
decision_sync = search (walk_sync, sendable) depth 60 fits 20000

reply_send : IsSend reply.the_field.row
reply_send = search (walk_send, decision_send, sendable) depth 60 fits 20000

reply_sync : IsSync reply.the_field.row
reply_sync = search (walk_sync, decision_sync, sendable) depth 60 fits 20000

request_send : IsSend request.the_field.row
request_send = search (sendable) depth 60 fits 20000

request_sync : IsSync request.the_field.row
request_sync = search (sendable) depth 60 fits 20000

step_send : IsSend step.the_field.row
step_send = search (reply_send, request_send, sendable) depth 60 fits 20000

step_sync : IsSync step.the_field.row
step_sync = search (reply_sync, request_sync, sendable) depth 60 fits 20000

pub entry_send : IsSend entry.the_row
entry_send = search (step_send, sendable) depth 60 fits 20000

pub entry_sync : IsSync entry.the_row
entry_sync = search (step_sync, sendable) depth 60 fits 20000

-- all of them, for a search
pub ruleset base_send = (list_send, name_send, status_send, happened_send, trigger_send, walk_send, entry_send)

pub ruleset base_sync = (list_sync, name_sync, status_sync, happened_sync, trigger_sync, walk_sync, entry_sync)
