-- Charges: how many minutes of a user's role are charged on a civil day.
use Rattle.std.specs.Prelude.{ℕ, ◌+◌, ◌*◌, Bool, ◌&&◌, nat_eq, nat_le, nat_lt, List, count_by, unwrap_or}
use Rattle.std.specs.Map.{lookup}
use Rattle.gt_base.specs.declared.events.RoleId.{RoleId}
use Rattle.gt_base.specs.declared.events.UserId.{UserId}
use Rattle.gtrbac_model.specs.Same.{same_role, same_user}
use Rattle.session_table.specs.declared.charges.Charge.{Charge}
use Rattle.session_table.specs.declared.whole.Whole.{Whole}
use Rattle.session_table.specs.contracts.charges.ChargePartialEq.TheImpl as charge_equality

abbrev pub charge_eq : Charge → Charge → Bool
charge_eq = charge_equality.ghosts.eq

-- what the rows say
abbrev pub charged_by_rows : List (Charge × ℕ) → UserId → RoleId → ℕ → ℕ
charged_by_rows rows u r d =
    unwrap_or (lookup (charge_eq (record { user = u; role = r; day = d })) rows) 0

-- whether the stretch is of the user and the role, and has the day
abbrev pub covers : UserId → RoleId → ℕ → Whole → Bool
covers u r d w = (same_user w.user u && same_role w.role r) && (nat_le w.first d && nat_lt d w.past)

-- how many stretches of the user and the role have the day
abbrev pub covering : List Whole → UserId → RoleId → ℕ → ℕ
covering ws u r d = count_by (covers u r d) ws

-- each stretch charges each minute of its days
abbrev pub charged_by : List (Charge × ℕ) → List Whole → UserId → RoleId → ℕ → ℕ
charged_by rows ws u r d = charged_by_rows rows u r d + 1440 * covering ws u r d

-- the rows of single days, and the stretches of whole days
pub record Charged : Type 0 where
  pub rows : List (Charge × ℕ)
  pub stretches : List Whole

-- how many minutes are charged to a user's role on a civil day
abbrev pub charged_in : Charged → UserId → RoleId → ℕ → ℕ
charged_in charges u r d = charged_by charges.rows charges.stretches u r d

-- whether the key is of this user, role and day
abbrev pub is_key : Charge → UserId → RoleId → ℕ → Bool
is_key k u r d = same_user k.user u && same_role k.role r && nat_eq k.day d
