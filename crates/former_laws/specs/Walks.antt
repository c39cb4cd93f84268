-- Edges and walks as they were before events switched edges.
use Rattle.std.specs.Prelude.{◌≡◌, ℕ, ◌<◌, Bool, true, false, ◌&&◌, List, [], ◌∷◌, length, map, filter, Option, Some, None, if◌then◌else◌}
use Rattle.gt_base.specs.declared.events.RoleId.{RoleId}
use Rattle.gt_base.specs.declared.events.UserId.{UserId}
use Rattle.gt_base.specs.declared.events.PermId.{PermId}
use Rattle.gt_base.specs.declared.events.Fluent.TheVariants.{Enabled, Assigned, Granted, Edge}
use Rattle.gt_base.specs.declared.policies.HierEdge.{HierEdge}
use Rattle.gt_base.specs.declared.requests.Decision.{Decision}
use Rattle.gt_base.specs.declared.requests.Decision.TheVariants.{Permit, NoActive, NoGrant, Shut}
use Rattle.gt_base.specs.Held.{RoleWalk}
use Rattle.gtrbac_model.specs.Same.{same_role, lists}
use Rattle.gtrbac_model.specs.Conflict.{Status, won, turns_off}
use Rattle.gtrbac_model.specs.Policy.{Policy}
use Rattle.gtrbac_model.specs.Status.{Model, status_after}
use Rattle.gtrbac_model.specs.Graph.{Arc, Path, least_walk, item_at}
use Rattle.gtrbac_model.specs.Hierarchy.{usable, all_roles, activation_walk, permission_walk, permission_walk_of_any}
use Rattle.gtrbac_model.specs.Decision.{decide}

-- a weak edge lends permissions while its senior is enabled, and allows activation while its junior
-- is; a strong one needs both
abbrev pub former_usable : Status → Bool → HierEdge → Bool
former_usable s inherits e =
    (if inherits then e.inherits else e.activates)
    && (if e.strong then s (Enabled e.senior) && s (Enabled e.junior)
    else s (Enabled (if inherits then e.senior else e.junior)))

abbrev pub former_arcs : (HierEdge → Bool) → List HierEdge → List (Arc RoleId)
former_arcs ok edges = map (λ e. record { from = e.senior; to = e.junior; is_open = ok e }) edges

abbrev pub former_role_walk : Option (Path RoleId) → Option RoleWalk
former_role_walk None = None
former_role_walk (Some p) = Some (record { start = p.start; edges = p.arcs })

-- the least walk over edges that pass the test, from one of the roles that pass to a goal: by
-- length, then start, then edge numbers
abbrev pub former_walk : List HierEdge → (HierEdge → Bool) → (RoleId → Bool) → (RoleId → Bool)
    → Option RoleWalk
former_walk edges ok from goal = former_role_walk
    (least_walk same_role (former_arcs ok edges) goal (filter from all_roles))

-- by which walk the user may activate the role
abbrev pub former_activation : List HierEdge → Status → UserId → RoleId → Option RoleWalk
former_activation edges s user role = former_walk edges (former_usable s false)
    (λ r. s (Assigned user r)) (same_role role)

-- by which walk one of the active roles is lent the permission
abbrev pub former_permission : List HierEdge → Status → List RoleId → PermId → Option RoleWalk
former_permission edges s active perm = former_walk edges (former_usable s true)
    (lists same_role active) (λ r. s (Granted perm r))

-- the same, where usability is ignored
abbrev pub former_permission_of_any : List HierEdge → Status → List RoleId → PermId
    → Option RoleWalk
former_permission_of_any edges s active perm = former_walk edges (λ e. e.inherits)
    (lists same_role active) (λ r. s (Granted perm r))

abbrev pub former_lends : Status → List HierEdge → ℕ → Bool
former_lends s edges n = elim (item_at edges n) [ Some e ↦ former_usable s true e | None ↦ false ]

abbrev pub former_first_shut : Status → List HierEdge → List ℕ → ℕ
former_first_shut s edges [] = 0
former_first_shut s edges (n ∷ ns) = if former_lends s edges n
    then former_first_shut s edges ns else n

-- where no usable walk leads to the permission: none at all, or one that is shut at an edge
abbrev pub former_denied : Status → List HierEdge → Option RoleWalk → Decision
former_denied s edges None = NoGrant
former_denied s edges (Some w) = Shut (former_first_shut s edges w.edges)

abbrev pub former_decision : List HierEdge → Status → List RoleId → PermId → Decision
former_decision edges s [] perm = NoActive
former_decision edges s (r ∷ rs) perm =
    elim (former_permission edges s (r ∷ rs) perm) [
      | Some w ↦ Permit w
      | None ↦ former_denied s edges (former_permission_of_any edges s (r ∷ rs) perm)
    ]

-- every edge is on
abbrev pub AreLinked : Status → List HierEdge → Type 0
AreLinked s edges = (n : ℕ) → n < length edges → s (Edge n) ≡ true

abbrev pub UsableAsBefore : Type 0
UsableAsBefore = (s : Status) (inherits : Bool) (n : ℕ) (e : HierEdge) → s (Edge n) ≡ true
    → usable s inherits n e ≡ former_usable s inherits e

abbrev pub AllowedAsBefore : Type 0
AllowedAsBefore =
    (edges : List HierEdge) (s : Status) (user : UserId) (role : RoleId) → AreLinked s edges
    → activation_walk edges s user role ≡ former_activation edges s user role

abbrev pub LentAsBefore : Type 0
LentAsBefore =
    (edges : List HierEdge) (s : Status) (active : List RoleId) (perm : PermId) → AreLinked s edges
    → permission_walk edges s active perm ≡ former_permission edges s active perm

abbrev pub AnyAsBefore : Type 0
AnyAsBefore =
    (edges : List HierEdge) (s : Status) (active : List RoleId) (perm : PermId)
    → permission_walk_of_any edges s active perm ≡ former_permission_of_any edges s active perm

abbrev pub DecidedAsBefore : Type 0
DecidedAsBefore =
    (edges : List HierEdge) (s : Status) (active : List RoleId) (perm : PermId) → AreLinked s edges
    → decide edges s active perm ≡ former_decision edges s active perm

-- where every edge is on at the birth and no event that turns one off is ever won, every edge is on
-- after each minute
abbrev pub StayLinked : Type 0
StayLinked =
    (p : Policy) (birth : ℕ) (m : Model) → AreLinked (status_after p birth m 0) p.edges
    → ((t n : ℕ) → n < length p.edges → won (m t) (turns_off (Edge n)) ≡ false)
    → (k : ℕ) → AreLinked (status_after p birth m k) p.edges
