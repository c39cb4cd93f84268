-- Hierarchies within the limits of a policy.
use Rattle.std.specs.Prelude.{◌≡◌, ℕ, ◌<◌, ◌≤◌, List, length, Some}
use Rattle.gt_base.specs.declared.policies.HierEdge.{HierEdge}
use Rattle.gt_base.specs.declared.limits.TheConstants.{MAX_EDGES, MAX_ROLES}
use Rattle.gtrbac_model.specs.Graph.{item_at}

-- both roles are among the first so many
pub record HasRoles (roles : ℕ) (e : HierEdge) : Type 0 where
  pub senior_in : e.senior.0 < roles
  pub junior_in : e.junior.0 < roles

abbrev pub AreWithin : ℕ → List HierEdge → Type 0
AreWithin roles es = (n : ℕ) (e : HierEdge) → item_at es n ≡ Some e → HasRoles roles e

-- as many edges and roles as a policy may have, at most
pub record IsHierarchy (es : List HierEdge) : Type 0 where
  pub few : length es ≤ MAX_EDGES
  pub within : AreWithin MAX_ROLES es
