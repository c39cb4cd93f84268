-- The order of roles is that of their numbers.
use Rattle.std.proofs.Common.{◌≡◌, sym}
use Rattle.std.specs.Cmp.{IsTotalOrder}
use Rattle.std.specs.Ordering.{eq_by_cmp}
use Rattle.gt_base.specs.declared.events.RoleId.{RoleId}
use Rattle.gt_base.specs.contracts.events.RoleIdOrd.TheImpl.Laws as role_laws
use Rattle.gtrbac_model.specs.Same.{same_role}
use Rattle.session_table.specs.RoleSets.{role_cmp}

pub role_cmp_total : IsTotalOrder role_cmp
role_cmp_total = role_laws.total-law

pub tied_is_same : (a b : RoleId) → eq_by_cmp role_cmp a b ≡ same_role a b
tied_is_same a b = sym (role_laws.matches_eq-law a b)
