-- The triggers by the events that they head.
use Rattle.std.specs.Prelude.{Bool, false, ◌&&◌, Option, Some, None}
use Rattle.gt_base.specs.declared.events.Event.{Event}
use Rattle.gt_base.specs.Held.{TriggerView}
use Rattle.gtrbac_model.specs.Same.{same_event}
use Rattle.gtrbac_model.specs.Trigger.{immediate}

-- the trigger is immediate, and heads the event, at whichever priority
abbrev pub is_headed : Event → TriggerView → Bool
is_headed e r = immediate r && same_event r.head.event e

-- there is a trigger, and it passes the test
abbrev pub passes : (TriggerView → Bool) → Option TriggerView → Bool
passes p None = false
passes p (Some r) = p r
