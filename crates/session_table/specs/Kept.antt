-- What every table keeps.
use Rattle.std.specs.Prelude.{◌≡◌, ℕ, ◌+◌, ◌-◌, ◌*◌, ◌≤◌, min, List, map, count_by, Option, Some, None}
use Rattle.std.specs.List.{list_any}
use Rattle.gt_base.specs.declared.events.RoleId.{RoleId}
use Rattle.gt_base.specs.declared.events.UserId.{UserId}
use Rattle.gt_base.specs.declared.events.SessionId.{SessionId}
use Rattle.gtrbac_model.specs.Sessions.{Activation, is_active_in}
use Rattle.session_table.specs.declared.opened.Open.{Open}
use Rattle.session_table.specs.Opened.{opened, role_in, NumberedFrom}
use Rattle.session_table.specs.Charges.{Charged, charged_in}
use Rattle.gt_base.specs.declared.limits.TheConstants.{MAX_SESSIONS}

-- how many minutes of a civil day have passed at the close of an instant
abbrev pub minutes_until : Option ℕ → ℕ → ℕ
minutes_until None d = 0
minutes_until (Some t) d = min (t + 1) (1440 * d + 1440) - 1440 * d

-- at most 10,000 open sessions; a session's roles are those of its activations, each role once; and
-- what is charged on a day is no more than 10,000 activations can be charged
pub record AreKeptRows (os : List Open) (active : List Activation) (charges : Charged)
    (to : Option ℕ)
    : Type 0 where
  pub few : count_by (λ o. o.is_open) os ≤ MAX_SESSIONS
  pub index : (n : SessionId) (r : RoleId) → role_in os n r ≡ list_any (is_active_in n r) active
  pub once : (n : SessionId) (r : RoleId) → count_by (is_active_in n r) active ≤ 1
  pub bounded : (u : UserId) (r : RoleId) (d : ℕ)
      → charged_in charges u r d ≤ MAX_SESSIONS * minutes_until to d

-- and the numbers of the sessions and of the gaps between them rise, up to that of the last one
-- begun, and so many are open
pub record IsTable (os : List Open) (standing : ℕ) (active : List Activation) (charges : Charged)
    (to : Option ℕ) (begun : ℕ) : Type 0 where
  pub kept : AreKeptRows os active charges to
  pub counted : standing ≡ count_by (λ o. o.is_open) os
  pub numbered : NumberedFrom 0 (map opened os) begun
