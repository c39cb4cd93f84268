-- Why an event is in force or blocked at the end of a script, as it is told.
use Rattle.std.specs.Prelude.{◌≡◌, ℕ, ◌+◌, ◌-◌, Bool, ◌&&◌, not, nat_eq, nat_lt, if◌then◌else◌, List, [], ◌∷◌, ◌++◌, length, codes, decimal, Option, Some, None}
use Rattle.gt_base.specs.Held.{TriggerView}
use Rattle.gt_base.specs.Events.{converse}
use Rattle.gt_base.specs.Happening.{HappenedView}
use Rattle.gt_base.specs.Sets.{has}
use Rattle.gt_base.specs.declared.events.Event.{Event}
use Rattle.gt_base.specs.declared.events.Prioritised.{Prioritised}
use Rattle.gt_base.specs.declared.limits.TheConstants.{MAX_PRIO}
use Rattle.gt_base.specs.declared.requests.Entry.{Entry}
use Rattle.gt_base.specs.declared.requests.Seen.{Seen}
use Rattle.gt_base.specs.declared.requests.Seen.TheVariants.{Unblocked, Blocked, Absent}
use Rattle.gt_text.specs.Words.{spaced}
use Rattle.gtrbac_model.specs.Policy.{Policy}
use Rattle.gtrbac_model.specs.Base.{status, base_at}
use Rattle.gtrbac_model.specs.Conflict.{Status, after, greatest_below, seen, stands_at}
use Rattle.gtrbac_model.specs.History.{Legal, now_of, point_after}
use Rattle.gtrbac_model.specs.Same.{same_prioritised}
use Rattle.gtrbac_model.specs.Status.{Model}
use Rattle.gtrbac_model.specs.Trigger.{immediate, met}
use Rattle.instant_bases.specs.Timelines.{ClosedSet}
use Rattle.policy_words.specs.Wording.{event_words}
use Rattle.policy_words.specs.declared.parts.NamedEvent.{NamedEvent}
use Rattle.why_check.specs.Certificates.{Listed, Accepts}

-- the trigger is immediate, has the event as its head and is met in the set
abbrev pub raises : HappenedView → Status → Prioritised → TriggerView → Bool
raises x before e r = immediate r && same_prioritised r.head e && met r x before

-- the number of the first that raises the event, counted on from n
abbrev pub first_raising : HappenedView → Status → Prioritised → ℕ → List TriggerView → Option ℕ
first_raising x before e n [] = None
first_raising x before e n (r ∷ rs) =
    if raises x before e r then Some n else first_raising x before e (n + 1) rs

abbrev pub trigger_word : Option ℕ → List ℕ
trigger_word None = []
trigger_word (Some n) = codes "trigger " ++ decimal n

-- an event of the set is there by the base, or else by the first trigger that raises it
abbrev pub reason : List TriggerView → HappenedView → Status → HappenedView → Prioritised → List ℕ
reason rules base before x e =
    if has base.events e then codes "base" else trigger_word (first_raising x before e 1 rules)

-- the converse with its greatest priority
abbrev pub by_word : NamedEvent → Option ℕ → List ℕ
by_word e None = []
by_word e (Some q) =
    codes " by " ++ decimal q ++ codes ":" ++ spaced (event_words (record e { on = not e.on }))

abbrev pub at_prio : ℕ → Event → Prioritised
at_prio p e = record { prio = p; event = e }

-- how the event stands in the set, with its reason, and with what blocks it
abbrev pub standing_line : List TriggerView → HappenedView → Status → HappenedView → NamedEvent
    → Event → Seen → List ℕ
standing_line rules base before x named e Absent = codes "absent\n"
standing_line rules base before x named e (Unblocked p) =
    codes "yes " ++ decimal p ++ codes " " ++ reason rules base before x (at_prio p e) ++ codes "\n"
standing_line rules base before x named e (Blocked p) =
    codes "blocked " ++ decimal p ++ codes " " ++ reason rules base before x (at_prio p e)
    ++ by_word named (greatest_below (stands_at x (converse e)) (MAX_PRIO + 1)) ++ codes "\n"

abbrev pub certificate_line : List Listed → List ℕ
certificate_line cert = codes "certificate " ++ decimal (length cert) ++ codes "\n"

-- the text tells how many instants a certificate of the history has, and how the event stands in
-- what requests at its end are answered from: the model's set of the last instant, and none at the
-- birth
pub record TellsWhy (p : Policy) (birth : ℕ) (h : List Entry) (named : NamedEvent) (e : Event)
    (text : List ℕ) : Type 0 where
  pub model : Model
  pub legal : Legal p birth h model
  pub cert : List Listed
  pub accepted : Accepts p birth h cert
  pub text_is : text
      ≡ certificate_line cert
      ++ standing_line p.triggers (base_at p birth model h (now_of birth h))
      (status p birth model (now_of birth h - 1)) (point_after p birth model h).set named e
      (seen (point_after p birth model h).set e)

-- what a trace has at an instant
abbrev pub closed_at : List ClosedSet → ℕ → Option ClosedSet
closed_at [] t = None
closed_at (c ∷ cs) t = if nat_eq c.at t then Some c else closed_at cs t

-- the status that the sets of a trace before an instant make of one
abbrev pub made_before : ℕ → List ClosedSet → Status → Status
made_before t [] s = s
made_before t (c ∷ cs) s = if nat_lt c.at t then made_before t cs (after c.set s) else s
