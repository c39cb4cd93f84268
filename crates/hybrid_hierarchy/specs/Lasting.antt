-- Walks that were found before, looked at again.
use Rattle.std.specs.Prelude.{ℕ, Bool, false, ◌&&◌, nat_lt, List, [], ◌∷◌, Option, Some, None, if◌then◌else◌}
use Rattle.gt_base.specs.declared.events.RoleId.{RoleId}
use Rattle.gt_base.specs.declared.events.UserId.{UserId}
use Rattle.gt_base.specs.declared.events.Fluent.TheVariants.{Assigned}
use Rattle.gt_base.specs.declared.policies.HierEdge.{HierEdge}
use Rattle.gt_base.specs.Held.{RoleWalk}
use Rattle.gt_base.specs.declared.limits.TheConstants.{MAX_ROLES}
use Rattle.gtrbac_model.specs.Conflict.{Status}
use Rattle.gtrbac_model.specs.Graph.{item_at}
use Rattle.gtrbac_model.specs.Hierarchy.{usable}
use Rattle.gtrbac_model.specs.Same.{same_role}

-- where the edge of this number leads from the role, if it passes and begins there
abbrev pub step_of : (ℕ → HierEdge → Bool) → List HierEdge → RoleId → ℕ → Option RoleId
step_of ok es at n = elim (item_at es n)
    [ Some e ↦ if same_role e.senior at && ok n e then Some e.junior else None | None ↦ None ]

-- whether the edges of these numbers lead from the one role to the other
abbrev pub leads_to : (ℕ → HierEdge → Bool) → List HierEdge → RoleId → List ℕ → RoleId → Bool
leads_to ok es at [] role = same_role role at
leads_to ok es at (n ∷ ns) role = elim (step_of ok es at n)
    [ Some next ↦ leads_to ok es next ns role | None ↦ false ]

-- whether the walk begins at a role to which the user is assigned, and leads to the role by edges
-- that allow activation
abbrev pub still_lets : List HierEdge → Status → UserId → RoleId → RoleWalk → Bool
still_lets es s user role w = (nat_lt w.start.0 MAX_ROLES && s (Assigned user w.start))
    && leads_to (usable s false) es w.start w.edges role
