-- Charges in rows of a day each, and in stretches of whole days.
use Rattle.std.specs.Prelude.{ℕ, ◌<◌, ◌≤◌, List, length, slice_index_or}
use Rattle.gt_base.specs.declared.events.RoleId.{RoleId}
use Rattle.gt_base.specs.declared.events.UserId.{UserId}
use Rattle.session_table.specs.declared.charges.Charge.{Charge}
use Rattle.session_table.specs.declared.whole.Whole.{Whole}
use Rattle.session_table.specs.Charges.{Charged, charged_by}

-- what is charged, and for how many activations a stretch of minutes can be charged
pub record ChargedDaysView : Type 0 where
  pub charged : Charged
  pub room : ℕ

-- no stretch has the day or a later one
abbrev pub AllBefore : ℕ → List Whole → Type 0
AllBefore day ws = (i : ℕ) (d : Whole) → i < length ws → (slice_index_or ws i d).past ≤ day

-- the stretches end before the day, and no charge is too great for a word
pub record AreChargedDays (rows : List (Charge × ℕ)) (ws : List Whole) (over : ℕ) : Type 0 where
  pub ended : AllBefore over ws
  pub fits : (u : UserId) (r : RoleId) (d : ℕ) → charged_by rows ws u r d < 4_294_967_296
