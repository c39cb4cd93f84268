-- What turns a fluent: each event of a set has its cause, and a fluent stands as it did at first or
-- as the last set that won an event of it made it.
use Rattle.std.specs.Prelude.{◌≡◌, ◌⊎◌, ℕ, ◌+◌, ◌-◌, ◌<◌, ◌≤◌, false, List, ◌∷◌, ◌++◌, Some, IsTrue}
use Rattle.gt_base.specs.declared.events.Fluent.{Fluent}
use Rattle.gt_base.specs.declared.events.Event.{Event}
use Rattle.gt_base.specs.declared.events.Prioritised.{Prioritised}
use Rattle.gt_base.specs.declared.policies.PeriodicEntry.{PeriodicEntry}
use Rattle.gt_base.specs.declared.policies.LimitRule.{LimitRule}
use Rattle.gt_base.specs.declared.requests.Who.{Who}
use Rattle.gt_base.specs.declared.requests.Actor.{Actor}
use Rattle.gt_base.specs.declared.requests.Request.TheVariants.{Raise}
use Rattle.gt_base.specs.declared.requests.Reply.TheVariants.{Queued}
use Rattle.gt_base.specs.declared.requests.Entry.{Entry}
use Rattle.gt_base.specs.Events.{converse}
use Rattle.gt_base.specs.Held.{TriggerView}
use Rattle.gt_base.specs.Machines.{asked}
use Rattle.gt_base.specs.Sets.{has}
use Rattle.gtrbac_model.specs.Policy.{Policy}
use Rattle.gtrbac_model.specs.Conflict.{turns_on, turns_off, won, won_at}
use Rattle.gtrbac_model.specs.Trigger.{met}
use Rattle.gtrbac_model.specs.Status.{Model, since}
use Rattle.gtrbac_model.specs.Graph.{item_at}
use Rattle.gtrbac_model.specs.Base.{status, raised_by, is_ripe, requested}
use Rattle.gtrbac_model.specs.Reply.{is_admin}
use Rattle.gtrbac_model.specs.History.{Legal, now_of}
use Rattle.history_laws.specs.Activations.{IsIn}

module _ (p : Policy) (birth : ℕ) (m : Model) (h : List Entry) (t : ℕ) (o : Prioritised) where
  -- a periodic entry raises the event at t
  pub record ByEntry : Type 0 where
    pub entry : PeriodicEntry
    pub is : IsIn p.entries entry
    pub raises : IsIn (raised_by p.periods birth t entry) o

  -- a limit that is on ends its condition at t
  pub record ByLimit : Type 0 where
    pub number : ℕ
    pub limit : LimitRule
    pub is : item_at p.limits number ≡ Some limit
    pub ripe : IsTrue (is_ripe p.periods (status p birth m (t - 1))
        (λ f. since p birth m f (t - 1)) number limit t)
    pub ends : o ≡ record {
      prio = limit.prio;
      event = converse (record { on = limit.cond.on; fluent = limit.cond.fluent });
    }

  -- the event is the head of a trigger that was met as many minutes before t as it is delayed
  pub record ByTrigger : Type 0 where
    pub rule : TriggerView
    pub is : IsIn p.triggers rule
    pub head : o ≡ rule.head
    pub later : birth < t - rule.delay
    pub is_met : IsTrue (met rule (m (t - rule.delay)) (status p birth m (t - rule.delay - 1)))

  -- the operator or an administrator asked for the event in this history, and it was queued for t,
  -- the minute after the request and its delay
  pub record ByRequest : Type 0 where
    pub front : List Entry
    pub rest : List Entry
    pub who : Who
    pub actor : Actor
    pub delay : ℕ
    pub is_part : front ++ asked who actor (Raise o delay) (Queued t) ∷ rest ≡ h
    pub may_raise : IsTrue (is_admin p actor)
    pub due : t ≡ now_of birth front + 1 + delay

  abbrev pub HasCause : Type 0
  HasCause = ByEntry ⊎ ByLimit ⊎ ByTrigger ⊎ ByRequest

-- each event that stands in a set of a legal history has one of these causes
abbrev pub EachHasCause : Type 0
EachHasCause =
    (p : Policy) (birth : ℕ) (m : Model) (h : List Entry) → Legal p birth h m
    → (t : ℕ) → birth < t → t ≤ now_of birth h → (o : Prioritised) → IsTrue (has (m t).events o)
    → HasCause p birth m h t o

-- the entries of a legal history raise nothing else than what was so asked for
abbrev pub OnlyRequestsRaise : Type 0
OnlyRequestsRaise =
    (p : Policy) (birth : ℕ) (m : Model) (h : List Entry) → Legal p birth h m
    → (t : ℕ) (o : Prioritised) → IsIn (requested h t) o → ByRequest p birth m h t o

-- no set after the one instant, up to the other, wins an event of the fluent
abbrev pub IsUnturned : Model → Fluent → ℕ → ℕ → Type 0
IsUnturned m f from to = (t : ℕ) → from < t → t ≤ to
    → (won (m t) (turns_on f) ≡ false) × (won (m t) (turns_off f) ≡ false)

-- it stands as at first, and was never turned since
pub record StandsAtFirst (p : Policy) (birth : ℕ) (m : Model) (t : ℕ) (e : Event) : Type 0 where
  pub at_first : has p.opening e.fluent ≡ e.on
  pub unturned : IsUnturned m e.fluent birth t

-- the last set up to t that won an event of the fluent won this one, at a priority at which it has
-- its cause
pub record IsTurned (p : Policy) (birth : ℕ) (m : Model) (h : List Entry) (t : ℕ)
    (e : Event) : Type 0 where
  pub at : ℕ
  pub after_birth : birth < at
  pub not_after : at ≤ t
  pub prio : ℕ
  pub wins : IsTrue (won_at (m at) e prio)
  pub cause : HasCause p birth m h at (record { prio = prio; event = e })
  pub unturned : IsUnturned m e.fluent at t

-- so it is of each fluent of a legal history, on or off
abbrev pub WhatTurns : Type 0
WhatTurns =
    (p : Policy) (birth : ℕ) (m : Model) (h : List Entry) → Legal p birth h m
    → (t : ℕ) → birth ≤ t → t ≤ now_of birth h → (e : Event) → status p birth m t e.fluent ≡ e.on
    → StandsAtFirst p birth m t e ⊎ IsTurned p birth m h t e
