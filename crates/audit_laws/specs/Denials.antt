-- Denials: each has its reason, and no active role of the session is lent the permission.
use Rattle.std.specs.Prelude.{◌≡◌, ℕ, ◌≤◌, Bool, true, false, List, [], ◌∷◌, ◌++◌, filter, Some}
use Rattle.gt_base.specs.declared.events.RoleId.{RoleId}
use Rattle.gt_base.specs.declared.events.SessionId.{SessionId}
use Rattle.gt_base.specs.declared.events.PermId.{PermId}
use Rattle.gt_base.specs.declared.events.Fluent.TheVariants.{Granted}
use Rattle.gt_base.specs.declared.policies.HierEdge.{HierEdge}
use Rattle.gt_base.specs.declared.requests.Who.{Who}
use Rattle.gt_base.specs.declared.requests.Actor.{Actor}
use Rattle.gt_base.specs.declared.requests.Decision.{Decision}
use Rattle.gt_base.specs.declared.requests.Decision.TheVariants.{Permit, NoActive, NoGrant, Shut}
use Rattle.gt_base.specs.declared.requests.Request.TheVariants.{Check}
use Rattle.gt_base.specs.declared.requests.Reply.TheVariants.{Decided}
use Rattle.gt_base.specs.declared.requests.Entry.{Entry}
use Rattle.gt_base.specs.declared.limits.TheConstants.{LAST_MINUTE}
use Rattle.gt_base.specs.Held.{RoleWalk}
use Rattle.gt_base.specs.Machines.{asked}
use Rattle.gtrbac_model.specs.Policy.{Policy}
use Rattle.gtrbac_model.specs.Conflict.{Status}
use Rattle.gtrbac_model.specs.Status.{Model}
use Rattle.gtrbac_model.specs.Graph.{item_at, IsLeastWalk}
use Rattle.gtrbac_model.specs.Hierarchy.{usable, role_arcs, all_roles}
use Rattle.gtrbac_model.specs.Same.{same_role, lists}
use Rattle.gtrbac_model.specs.Reply.{roles_of}
use Rattle.gtrbac_model.specs.History.{Legal, point_after}
use Rattle.gtrbac_model.specs.WholePolicy.{IsPolicy}
use Rattle.history_laws.specs.Activations.{IsIn}
use Rattle.history_laws.specs.Named.{AreNamed}
use Rattle.audit_laws.specs.Walks.{Lends}

-- the edge of this number is there, and this says whether it lends permissions now
pub record IsEdge (edges : List HierEdge) (s : Status) (lends : Bool) (n : ℕ) : Type 0 where
  pub edge : HierEdge
  pub is : item_at edges n ≡ Some edge
  pub lends_now : usable s true n edge ≡ lends

-- of the walks by edges that inherit, usable or not, from one of the roles to one to which the
-- permission is granted, the least has this as its first edge that does not lend now
pub record IsFirstShut (edges : List HierEdge) (s : Status) (active : List RoleId) (perm : PermId)
    (n : ℕ) : Type 0 where
  pub walk : RoleWalk
  pub least : IsLeastWalk (role_arcs (λ k e. e.inherits) edges) (λ r. s (Granted perm r))
      (filter (lists same_role active) all_roles)
      (record { start = walk.start; arcs = walk.edges })
  pub before : List ℕ
  pub after : List ℕ
  pub is : walk.edges ≡ before ++ n ∷ after
  pub lend : (k : ℕ) → IsIn before k → IsEdge edges s true k
  pub shut : IsEdge edges s false n

module _ (edges : List HierEdge) (s : Status) (active : List RoleId) (perm : PermId) where
  -- by edges that pass the test no walk leads from one of the roles to the permission
  abbrev pub NoneLends : (ℕ → HierEdge → Bool) → Type 0
  NoneLends ok = (walk : RoleWalk) → IsIn active walk.start → Lends edges ok s perm walk → ⊥

  -- what a denial says of the active roles: that there are none, that no edges that inherit lead
  -- to the permission, usable or not, or which edge shuts the least walk by such edges
  abbrev pub IsReason : Decision → Type 0
  IsReason (Permit walk) = ⊥
  IsReason NoActive = active ≡ []
  IsReason NoGrant = NoneLends (λ k e. e.inherits)
  IsReason (Shut n) = IsFirstShut edges s active perm n

  pub record IsRightDenial (d : Decision) : Type 0 where
    pub reason : IsReason d
    pub none : NoneLends (usable s true)

abbrev pub is_permit : Decision → Bool
is_permit (Permit walk) = true
is_permit _ = false

-- so is each denial of a legal history of a policy since a minute, of moves that name only what the
-- policy has
abbrev pub DenialsAreRight : Type 0
DenialsAreRight =
    (p : Policy) (birth : ℕ) (m : Model) (g h : List Entry) (who : Who) (actor : Actor)
    (n : SessionId) (perm : PermId) (d : Decision) → IsPolicy p → birth ≤ LAST_MINUTE
    → AreNamed p (g ++ asked who actor (Check n perm) (Decided d) ∷ h)
    → Legal p birth (g ++ asked who actor (Check n perm) (Decided d) ∷ h) m
    → is_permit d ≡ false
    → IsRightDenial p.edges (point_after p birth m g).status
    (roles_of (point_after p birth m g).table n) perm d
