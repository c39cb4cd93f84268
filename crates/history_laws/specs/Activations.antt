-- Laws of activations and signals over a whole history.
use Rattle.std.specs.Prelude.{◌≡◌, ℕ, ◌-◌, ◌<◌, ◌≤◌, ◌⊎◌, suc, true, false, List, [], ◌∷◌, ◌++◌, Some, IsTrue, IsSome}
use Rattle.gt_base.specs.declared.events.Signal.{Signal}
use Rattle.gt_base.specs.declared.events.Fluent.TheVariants.{Enabled}
use Rattle.gt_base.specs.declared.requests.Who.{Who}
use Rattle.gt_base.specs.declared.requests.Actor.{Actor}
use Rattle.gt_base.specs.declared.requests.Request.{Request}
use Rattle.gt_base.specs.declared.requests.Reply.{Reply}
use Rattle.gt_base.specs.declared.requests.Entry.{Entry}
use Rattle.gt_base.specs.Machines.{asked}
use Rattle.gtrbac_model.specs.Policy.{Policy}
use Rattle.gtrbac_model.specs.Conflict.{Status}
use Rattle.gtrbac_model.specs.Graph.{item_at}
use Rattle.gtrbac_model.specs.Hierarchy.{activation_walk}
use Rattle.gtrbac_model.specs.Status.{Model}
use Rattle.gtrbac_model.specs.Sessions.{Table, Activation, owner_of, signal_of, close_minute}
use Rattle.gtrbac_model.specs.Base.{status, table_at, signals_at}
use Rattle.gtrbac_model.specs.History.{Legal, now_of}

-- the list has the item at some place
abbrev pub IsIn : {A : Type 0} → List A → A → Type 0
IsIn xs x = (n : ℕ) × (item_at xs n ≡ Some x)

-- the activation is of an open session of its user, of a role that is on and that a usable walk
-- lets the user activate
pub record IsInOrder (p : Policy) (s : Status) (tb : Table) (a : Activation) : Type 0 where
  pub session_is_its_users : owner_of tb a.session ≡ Some a.user
  pub role_is_on : IsTrue (s (Enabled a.role))
  pub may_activate : IsSome (activation_walk p.edges s a.user a.role)

-- so it is of each activation, after each close and after each request made then
abbrev pub ActiveInOrder : Type 0
ActiveInOrder =
    (p : Policy) (birth : ℕ) (h : List Entry) (m : Model) → Legal p birth h m
    → (t : ℕ) → birth ≤ t → (a : Activation) → IsIn (table_at p birth m h t).active a
    → IsInOrder p (status p birth m t) (table_at p birth m h t) a

-- the signal is of an activation that is now among these, begun at this instant
pub record Began (t : ℕ) (after : List Activation) (x : Signal) : Type 0 where
  pub activation : Activation
  pub is : x ≡ signal_of true activation
  pub there : IsIn after activation
  pub begun : activation.begun ≡ t

-- the signal is of an activation that was among the first and is not among the second
pub record Ended (before after : List Activation) (x : Signal) : Type 0 where
  pub activation : Activation
  pub is : x ≡ signal_of false activation
  pub was : IsIn before activation
  pub gone : IsIn after activation → ⊥

-- the close of t, after the minute before it, ended an activation
pub record ToldByClose (p : Policy) (birth : ℕ) (m : Model) (h : List Entry) (t : ℕ)
    (x : Signal) : Type 0 where
  pub minute : ℕ
  pub next : t ≡ suc minute
  pub not_before_birth : birth ≤ minute
  pub ended : Ended (table_at p birth m h minute).active
      (close_minute p.edges p.caps (status p birth m t) t (table_at p birth m h minute)).active x

-- a request that the history answers while its now is t began or ended an activation
pub record ToldByRequest (p : Policy) (birth : ℕ) (m : Model) (h : List Entry) (t : ℕ)
    (x : Signal) : Type 0 where
  pub front : List Entry
  pub rest : List Entry
  pub who : Who
  pub actor : Actor
  pub request : Request
  pub reply : Reply
  pub is_part : front ++ asked who actor request reply ∷ rest ≡ h
  pub while : now_of birth front ≡ t
  pub told : Began t (table_at p birth m (front ++ asked who actor request reply ∷ []) t).active x
      ⊎ Ended (table_at p birth m front t).active
      (table_at p birth m (front ++ asked who actor request reply ∷ []) t).active x

-- each signal of an instant after the birth is of an activation that began or ended in the minute
-- before: by its close, or by a request made then
abbrev pub SignalsTell : Type 0
SignalsTell =
    (p : Policy) (birth : ℕ) (h : List Entry) (m : Model) → Legal p birth h m
    → (t : ℕ) → birth < t → (x : Signal) → IsIn (signals_at p birth m h t) x
    → ToldByClose p birth m h (t - 1) x ⊎ ToldByRequest p birth m h (t - 1) x
