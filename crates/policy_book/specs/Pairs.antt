-- The ordered pair of roles that an edge joins.
use Rattle.std.specs.Prelude.{Bool, ◌&&◌}
use Rattle.gt_base.specs.declared.events.RoleId.{RoleId}
use Rattle.gt_base.specs.declared.policies.HierEdge.{HierEdge}
use Rattle.gtrbac_model.specs.Same.{same_role}

-- the edge is from the senior to the junior
abbrev pub joins_pair : RoleId → RoleId → HierEdge → Bool
joins_pair senior junior e = same_role senior e.senior && same_role junior e.junior
