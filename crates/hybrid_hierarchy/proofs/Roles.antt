-- Roles and their numbers.
use Rattle.std.proofs.Common.{ℕ}
use Rattle.gt_base.specs.declared.events.RoleId.{RoleId}

abbrev pub role : ℕ → RoleId
role n = record { 0 = n }

abbrev pub number : RoleId → ℕ
number r = r.0
