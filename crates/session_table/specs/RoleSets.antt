-- Sets of roles.
use Rattle.std.specs.Coded.{Coded}
use Rattle.std.specs.declared.cmp.Ordering.{Ordering}
use Rattle.gt_base.specs.declared.events.RoleId.{RoleId}
use Rattle.gt_base.specs.contracts.events.RoleId as role
use Rattle.gt_base.specs.contracts.events.RoleIdOrd.TheImpl as role_order
use Rattle.gt_base.specs.Sets.{SetOf, set_code}

abbrev pub role_cmp : RoleId → RoleId → Ordering
role_cmp = role_order.ghosts.cmp

abbrev pub RoleSet : Type 0
RoleSet = SetOf role_cmp

abbrev pub roles_code : Coded RoleSet
roles_code = set_code role.the_row.coded
