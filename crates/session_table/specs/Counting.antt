-- Counts that are kept beside the activations.
use Rattle.std.specs.Prelude.{◌≡◌, ℕ, ◌≤◌, Bool, List, count_by, drop, length, Option, Some, None, unwrap_or}
use Rattle.std.specs.Map.{lookup}
use Rattle.gt_base.specs.declared.events.RoleId.{RoleId}
use Rattle.gt_base.specs.declared.events.UserId.{UserId}
use Rattle.gtrbac_model.specs.Same.{same_role}
use Rattle.gtrbac_model.specs.Sessions.{Activation, is_of}
use Rattle.session_table.specs.declared.counting.Holder.{Holder}
use Rattle.session_table.specs.contracts.counting.HolderPartialEq.TheImpl as holder_equality

abbrev pub holder_eq : Holder → Holder → Bool
holder_eq = holder_equality.ghosts.eq

-- what the rows say
abbrev pub counted : List (Holder × ℕ) → Holder → ℕ
counted rows h = unwrap_or (lookup (holder_eq h) rows) 0

-- the activation's user, and all, in its role
abbrev pub own_of : Activation → Holder
own_of a = record { user = Some a.user; role = a.role }

abbrev pub all_of : Activation → Holder
all_of a = record { user = None; role = a.role }

-- whether the activation is of the role, and of the user, if one is named
abbrev pub is_by : Option UserId → RoleId → Activation → Bool
is_by (Some u) r = is_of u r
is_by None r = λ a. same_role a.role r

-- each number is that of the activations
abbrev pub AreCounted : List (Holder × ℕ) → List Activation → Type 0
AreCounted rows active = (h : Holder) → counted rows h ≡ count_by (is_by h.user h.role) active

-- the gap lies within the rows, and those behind it are counted
pub record IsActiveRow (rows : List Activation) (gap : ℕ) (counts : List (Holder × ℕ))
    : Type 0 where
  pub within : gap ≤ length rows
  pub counted : AreCounted counts (drop gap rows)
