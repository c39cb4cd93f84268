-- That what is told of an event of a settled set has a reason, and a converse where it is blocked.
use Rattle.std.specs.Prelude.{◌≡◌, ◌⊎◌, ℕ, ◌+◌, ◌-◌, ◌≤◌, true, ⊤, List, length, Some}
use Rattle.gt_base.specs.Held.{TriggerView}
use Rattle.gt_base.specs.Events.{converse}
use Rattle.gt_base.specs.Happening.{HappenedView}
use Rattle.gt_base.specs.Sets.{has}
use Rattle.gt_base.specs.declared.events.Event.{Event}
use Rattle.gt_base.specs.declared.events.Prioritised.{Prioritised}
use Rattle.gt_base.specs.declared.requests.Entry.{Entry}
use Rattle.gt_base.specs.declared.requests.Seen.{Seen}
use Rattle.gt_base.specs.declared.requests.Seen.TheVariants.{Unblocked, Blocked, Absent}
use Rattle.gt_base.specs.declared.limits.TheConstants.{MAX_PRIO}
use Rattle.gtrbac_model.specs.Base.{status, base_at}
use Rattle.gtrbac_model.specs.Conflict.{Status, greatest_below, seen, stands_at}
use Rattle.gtrbac_model.specs.History.{Legal, now_of, point_after}
use Rattle.gtrbac_model.specs.Instant.{Settled}
use Rattle.gtrbac_model.specs.Status.{Model}
use Rattle.policy_words.specs.Naming.{NamedPolicy}
use Rattle.policy_words.specs.Valid.{IsWellFormed}
use Rattle.policy_commands.specs.Ends.{EndView}
use Rattle.why_check.specs.Priorities.{HasPriorities}
use Rattle.gtrbac_tool.specs.Script.{RunOver}
use Rattle.gtrbac_tool.specs.Standing.{at_prio, first_raising}

-- the event is in the base, or a trigger raises it, and so a first one of them, numbered from 1
abbrev pub HasReason : List TriggerView → HappenedView → Status → HappenedView → Prioritised
    → Type 0
HasReason rules base before x e =
    (has base.events e ≡ true)
    ⊎ ((n : ℕ) × (1 ≤ n) × (n ≤ length rules) × (first_raising x before e 1 rules ≡ Some n))

-- the converse is in the set, and so at a greatest priority
abbrev pub HasConverse : HappenedView → Event → Type 0
HasConverse x e = (q : ℕ) × (q ≤ MAX_PRIO)
    × (greatest_below (stands_at x (converse e)) (MAX_PRIO + 1) ≡ Some q)

abbrev pub IsExplained : List TriggerView → HappenedView → Status → HappenedView → Event → Seen
    → Type 0
IsExplained rules base before x e Absent = ⊤
IsExplained rules base before x e (Unblocked p) = HasReason rules base before x (at_prio p e)
IsExplained rules base before x e (Blocked p) =
    HasReason rules base before x (at_prio p e) × HasConverse x e

-- so it is of each set that a base settles to, whatever the triggers
abbrev pub ReasonsExist : Type 0
ReasonsExist =
    (rules : List TriggerView) (base : HappenedView) (before : Status) (x : HappenedView)
    → Settled rules base before x → HasPriorities x
    → (e : Event) → IsExplained rules base before x e (seen x e)

-- and of what is told at the end of each run over a policy that is well formed, the birth included
abbrev pub TellingsAreExplained : Type 0
TellingsAreExplained =
    (np : NamedPolicy) → IsWellFormed np → (birth n : ℕ) (lines : List (List ℕ)) (h : List Entry)
    (end : EndView) → RunOver np birth n lines h end → (m : Model) → Legal np.policy birth h m
    → (e : Event)
    → IsExplained np.policy.triggers (base_at np.policy birth m h (now_of birth h))
    (status np.policy birth m (now_of birth h - 1)) (point_after np.policy birth m h).set e
    (seen (point_after np.policy birth m h).set e)
