-- A decision asks of the active roles only which they are.
use Rattle.std.specs.Prelude.{◌≡◌, List}
use Rattle.gt_base.specs.declared.events.RoleId.{RoleId}
use Rattle.gt_base.specs.declared.events.PermId.{PermId}
use Rattle.gt_base.specs.declared.policies.HierEdge.{HierEdge}
use Rattle.gtrbac_model.specs.Same.{same_role, lists}
use Rattle.gtrbac_model.specs.Conflict.{Status}
use Rattle.gtrbac_model.specs.Decision.{decide}

-- lists with the same roles, in whatever order, give the same decision
abbrev pub RolesDecide : Type 0
RolesDecide =
    (edges : List HierEdge) (s : Status) (a b : List RoleId) (perm : PermId)
    → ((r : RoleId) → lists same_role a r ≡ lists same_role b r)
    → decide edges s a perm ≡ decide edges s b perm
