-- Nobody acts in another's session.
use Rattle.std.specs.Prelude.{◌≡◌, ◌≢◌, ◌⊎◌, ℕ, Bool, true, false, List, ◌∷◌, ◌++◌, Option, Some, None}
use Rattle.gt_base.specs.declared.events.UserId.{UserId}
use Rattle.gt_base.specs.declared.events.SessionId.{SessionId}
use Rattle.gt_base.specs.declared.requests.Who.{Who}
use Rattle.gt_base.specs.declared.requests.Actor.{Actor}
use Rattle.gt_base.specs.declared.requests.Actor.TheVariants.{User, Operator}
use Rattle.gt_base.specs.declared.requests.Request.{Request}
use Rattle.gt_base.specs.declared.requests.Request.TheVariants.{CloseSession, Activate, Deactivate, Active, Check}
use Rattle.gt_base.specs.declared.requests.Refusal.TheVariants.{NotYours}
use Rattle.gt_base.specs.declared.requests.Reply.{Reply}
use Rattle.gt_base.specs.declared.requests.Reply.TheVariants.{Refused}
use Rattle.gt_base.specs.declared.requests.Entry.{Entry}
use Rattle.gt_base.specs.Machines.{asked}
use Rattle.gtrbac_model.specs.Policy.{Policy}
use Rattle.gtrbac_model.specs.Status.{Model}
use Rattle.gtrbac_model.specs.Sessions.{Table, owner_of}
use Rattle.gtrbac_model.specs.History.{Legal, point_after}
use Rattle.history_laws.specs.Looks.{ChangesNothing}

-- the session that a request is for
abbrev pub session_of : Request → Option SessionId
session_of (CloseSession n) = Some n
session_of (Activate n role) = Some n
session_of (Deactivate n role) = Some n
session_of (Active n role) = Some n
session_of (Check n perm) = Some n
session_of _ = None

-- the user asks, or the operator
abbrev pub MayAsk : UserId → Actor → Type 0
MayAsk u actor = (actor ≡ User u) ⊎ (actor ≡ Operator)

-- the session is open, and its owner asks or the operator
pub record IsOwn (tb : Table) (actor : Actor) (n : SessionId) : Type 0 where
  pub owner : UserId
  pub is_open : owner_of tb n ≡ Some owner
  pub may_ask : MayAsk owner actor

abbrev pub is_refused : Reply → Bool
is_refused (Refused why) = true
is_refused _ = false

-- a request for a session that a legal history does not refuse is for an open one, of its owner or
-- of the operator
abbrev pub OwnersAct : Type 0
OwnersAct =
    (p : Policy) (birth : ℕ) (m : Model) (g h : List Entry) (who : Who) (actor : Actor)
    (request : Request) (reply : Reply) (n : SessionId)
    → Legal p birth (g ++ asked who actor request reply ∷ h) m → session_of request ≡ Some n
    → is_refused reply ≡ false → IsOwn (point_after p birth m g).table actor n

-- the request is for an open session of another than this user
pub record IsForAnothers (tb : Table) (u : UserId) (request : Request) : Type 0 where
  pub session : SessionId
  pub owner : UserId
  pub is_for : session_of request ≡ Some session
  pub is_open : owner_of tb session ≡ Some owner
  pub anothers : owner ≢ u

-- the entry is refused as not the user's, and changes nothing
pub record IsTurnedAway (p : Policy) (birth : ℕ) (m : Model) (g : List Entry) (e : Entry)
    (h : List Entry) (reply : Reply) : Type 0 where
  pub refused : reply ≡ Refused NotYours
  pub nothing : ChangesNothing p birth m g e h

-- so is each request of a user for another's session
abbrev pub OthersAreTurnedAway : Type 0
OthersAreTurnedAway =
    (p : Policy) (birth : ℕ) (m : Model) (g h : List Entry) (who : Who) (u : UserId)
    (request : Request) (reply : Reply)
    → Legal p birth (g ++ asked who (User u) request reply ∷ h) m
    → IsForAnothers (point_after p birth m g).table u request
    → IsTurnedAway p birth m g (asked who (User u) request reply) h reply
