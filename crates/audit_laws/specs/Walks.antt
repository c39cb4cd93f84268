-- What walks lend and allow.
use Rattle.std.specs.Prelude.{ℕ, Bool, false, List, IsTrue}
use Rattle.gt_base.specs.declared.events.RoleId.{RoleId}
use Rattle.gt_base.specs.declared.events.UserId.{UserId}
use Rattle.gt_base.specs.declared.events.PermId.{PermId}
use Rattle.gt_base.specs.declared.events.Fluent.TheVariants.{Enabled, Assigned, Granted}
use Rattle.gt_base.specs.declared.policies.HierEdge.{HierEdge}
use Rattle.gt_base.specs.Held.{RoleWalk}
use Rattle.gtrbac_model.specs.Policy.{Policy}
use Rattle.gtrbac_model.specs.Conflict.{Status}
use Rattle.gtrbac_model.specs.Graph.{LeadsAlong}
use Rattle.gtrbac_model.specs.Hierarchy.{usable, role_arcs}

-- by edges that pass the test the walk leads from its start to a role to which the permission is
-- granted
pub record Lends (edges : List HierEdge) (ok : ℕ → HierEdge → Bool) (s : Status) (perm : PermId)
    (walk : RoleWalk) : Type 0 where
  pub end : RoleId
  pub leads : LeadsAlong (role_arcs ok edges) walk.start walk.edges end
  pub granted : IsTrue (s (Granted perm end))

-- the role is on, and by usable edges the walk leads to it from a role to which the user is assigned
pub record Allows (p : Policy) (s : Status) (u : UserId) (r : RoleId) (walk : RoleWalk)
    : Type 0 where
  pub is_on : IsTrue (s (Enabled r))
  pub assigned : IsTrue (s (Assigned u walk.start))
  pub leads : LeadsAlong (role_arcs (usable s false) p.edges) walk.start walk.edges r
