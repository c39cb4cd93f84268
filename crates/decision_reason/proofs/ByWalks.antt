-- The decision by cases on the two walks.
use Rattle.std.proofs.Common.{◌≡◌, ◌<◌, List, [], ◌∷◌, length, Option, Some, None, Result, Ok, Err, IfOk, refl, ◌∙◌, arith}
use Rattle.gt_base.specs.declared.events.RoleId.{RoleId}
use Rattle.gt_base.specs.declared.events.PermId.{PermId}
use Rattle.gt_base.specs.declared.policies.HierEdge.{HierEdge}
use Rattle.gt_base.specs.declared.requests.Decision.{Decision}
use Rattle.gt_base.specs.Held.{RoleWalk}
use Rattle.gtrbac_model.specs.Conflict.{Status}
use Rattle.gtrbac_model.specs.Hierarchy.{permission_walk, permission_walk_of_any}
use Rattle.gtrbac_model.specs.Decision.{decide}
use Rattle.decision_reason.specs.Shut.{by_walks}

-- where some role is active
pub some_active : (edges : List HierEdge) (s : Status) (active : List RoleId) (perm : PermId) → 0 < length active
    → by_walks s edges (permission_walk edges s active perm) (permission_walk_of_any edges s active perm) ≡ decide edges s active perm
some_active edges s [] perm some = absurd (omega (arith, some))
some_active edges s (r ∷ rs) perm some = of (permission_walk edges s (r ∷ rs) perm)
  where
    of : (o : Option RoleWalk) → by_walks s edges o (permission_walk_of_any edges s (r ∷ rs) perm) ≡ (elim o [ Some w ↦ by_walks s edges (Some w) None | None ↦ by_walks s edges None (permission_walk_of_any edges s (r ∷ rs) perm) ])
    of (Some w) = refl
    of None = refl

pub decided : {E : Type 0} (edges : List HierEdge) (s : Status) (active : List RoleId) (perm : PermId) → 0 < length active → (r : Result Decision E)
    → IfOk r (λ d. d ≡ by_walks s edges (permission_walk edges s active perm) (permission_walk_of_any edges s active perm)) → IfOk r (λ d. d ≡ decide edges s active perm)
decided {E} edges s active perm some (Ok d) told = told ∙ some_active edges s active perm some
decided {E} edges s active perm some (Err e) told = tt
