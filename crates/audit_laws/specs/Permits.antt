-- Permits: each is earned by an activation that was answered for, and allowed ever since.
use Rattle.std.specs.Prelude.{◌≡◌, ℕ, ◌<◌, ◌≤◌, true, List, ◌∷◌, ◌++◌}
use Rattle.gt_base.specs.declared.events.SessionId.{SessionId}
use Rattle.gt_base.specs.declared.events.PermId.{PermId}
use Rattle.gt_base.specs.declared.requests.Who.{Who}
use Rattle.gt_base.specs.declared.requests.Actor.{Actor}
use Rattle.gt_base.specs.declared.requests.Decision.TheVariants.{Permit}
use Rattle.gt_base.specs.declared.requests.Request.TheVariants.{Activate, Check}
use Rattle.gt_base.specs.declared.requests.Reply.TheVariants.{Active, Decided}
use Rattle.gt_base.specs.declared.requests.Entry.{Entry}
use Rattle.gt_base.specs.Held.{RoleWalk}
use Rattle.gt_base.specs.Machines.{asked}
use Rattle.gtrbac_model.specs.Policy.{Policy}
use Rattle.gtrbac_model.specs.Status.{Model}
use Rattle.gtrbac_model.specs.Hierarchy.{usable}
use Rattle.gtrbac_model.specs.Sessions.{Activation}
use Rattle.gtrbac_model.specs.Base.{status}
use Rattle.gtrbac_model.specs.History.{Legal, now_of, point_after}
use Rattle.history_laws.specs.Activations.{IsIn}
use Rattle.audit_laws.specs.Owners.{MayAsk, IsOwn}
use Rattle.audit_laws.specs.Walks.{Lends, Allows}

-- a request of the history began the activation: its user or the operator asked, it was answered
-- with a walk that allowed it then, and some walk allowed it at each close since then
pub record IsEarned (p : Policy) (birth : ℕ) (m : Model) (h : List Entry) (a : Activation)
    : Type 0 where
  pub front : List Entry
  pub rest : List Entry
  pub who : Who
  pub actor : Actor
  pub walk : RoleWalk
  pub is_part : front ++ asked who actor (Activate a.session a.role) (Active walk) ∷ rest ≡ h
  pub begun : now_of birth front ≡ a.begun
  pub may_ask : MayAsk a.user actor
  pub at_first : Allows p (status p birth m a.begun) a.user a.role walk
  pub since : (t : ℕ) → a.begun < t → t ≤ now_of birth h
      → (w : RoleWalk) × Allows p (status p birth m t) a.user a.role w

-- the session is open, and its owner asks or the operator; one of its activations is earned; and by
-- edges that are usable now the walk leads from that role to one to which the permission is granted
-- now
pub record IsRightPermit (p : Policy) (birth : ℕ) (m : Model) (h : List Entry) (actor : Actor)
    (n : SessionId) (perm : PermId) (walk : RoleWalk) : Type 0 where
  pub own : IsOwn (point_after p birth m h).table actor n
  pub activation : Activation
  pub is_active : IsIn (point_after p birth m h).table.active activation
  pub of_session : activation.session ≡ n
  pub of_owner : activation.user ≡ own.owner
  pub of_role : activation.role ≡ walk.start
  pub is_earned : IsEarned p birth m h activation
  pub lends : Lends p.edges (usable (point_after p birth m h).status true)
      (point_after p birth m h).status perm walk

-- so is each permit of a legal history
abbrev pub PermitsAreEarned : Type 0
PermitsAreEarned =
    (p : Policy) (birth : ℕ) (m : Model) (g h : List Entry) (who : Who) (actor : Actor)
    (n : SessionId) (perm : PermId) (walk : RoleWalk)
    → Legal p birth (g ++ asked who actor (Check n perm) (Decided (Permit walk)) ∷ h) m
    → IsRightPermit p birth m g actor n perm walk
