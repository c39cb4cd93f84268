-- Causes of refusals, in their order.
use Rattle.std.specs.Prelude.{◌≡◌, ℕ, ◌<◌, Bool, false, not, List, [], ◌∷◌, length, map, Option, Some, None, if◌then◌else◌}
use Rattle.std.specs.List.{position_or_len}
use Rattle.gt_base.specs.declared.events.RoleId.{RoleId}
use Rattle.gt_base.specs.declared.events.UserId.{UserId}
use Rattle.gt_base.specs.declared.events.SessionId.{SessionId}
use Rattle.gt_base.specs.declared.events.Fluent.TheVariants.{Enabled}
use Rattle.gt_base.specs.declared.policies.Caps.{Caps}
use Rattle.gt_base.specs.declared.requests.Actor.{Actor}
use Rattle.gt_base.specs.declared.requests.Actor.TheVariants.{User}
use Rattle.gt_base.specs.declared.requests.Refusal.{Refusal}
use Rattle.gt_base.specs.declared.requests.Refusal.TheVariants.{Already, Disabled, RoleFull, UserFull, DaySpent}
use Rattle.gtrbac_model.specs.Same.{same_user}
use Rattle.gtrbac_model.specs.Conflict.{Status}
use Rattle.gtrbac_model.specs.Sessions.{Table, reached}
use Rattle.session_table.specs.declared.opened.Open.{Open}
use Rattle.session_table.specs.Opened.{numbered, opened, still_open}

-- the first that is there
abbrev pub first_cause : List (Bool × Refusal) → Option Refusal
first_cause [] = None
first_cause (c ∷ cs) = if c.0 then Some c.1 else first_cause cs

-- the first session of this number stands at the place
pub record StandsAt (os : List Open) (n : SessionId) (at : ℕ) : Type 0 where
  pub inside : at < length os
  pub first : at ≡ position_or_len (numbered n) os

-- the actor is a user other than the owner
abbrev pub is_foreign : UserId → Actor → Bool
is_foreign owner (User u) = not (same_user owner u)
is_foreign owner _ = false

-- a table with these sessions
abbrev pub with_sessions : List Open → Table → Table
with_sessions os tb = record tb { sessions = map opened (still_open os) }

-- what refuses an activation before a walk is asked
abbrev pub early_causes : Status → Bool → RoleId → List (Bool × Refusal)
early_causes s active r = (active, Already) ∷ (not (s (Enabled r)), Disabled) ∷ []

-- and after it
abbrev pub late_causes : Caps → ℕ → ℕ → ℕ → List (Bool × Refusal)
late_causes caps all own spent =
    (reached caps.total all, RoleFull all) ∷ (reached caps.user own, UserFull own)
    ∷ (reached caps.day spent, DaySpent spent) ∷ []

-- the number, where the cap is reached by it
abbrev pub full_at : Option ℕ → ℕ → Option ℕ
full_at cap n = if reached cap n then Some n else None
