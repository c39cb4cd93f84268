-- The least instant at which a cap drops an activation.
use Rattle.std.specs.Prelude.{◌≡◌, ℕ, ◌+◌, ◌-◌, ◌*◌, ◌<◌, ◌≤◌, ◌||◌, Bool, true, false, count_by, is_some, List, Option, MatchOption}
use Rattle.std.specs.List.{list_any}
use Rattle.gt_base.specs.declared.policies.Caps.{Caps}
use Rattle.gt_base.specs.declared.limits.TheConstants.{LAST_MINUTE}
use Rattle.gtrbac_model.specs.Calendar.{day_of}
use Rattle.gtrbac_model.specs.Sessions.{Table, Activation, caps_of, reached, is_of}
use Rattle.history_laws.specs.Tables.{minutes_of_day}
use Rattle.session_table.specs.Charges.{Charged, charged_in}
use Rattle.session_table.specs.Tables.{is_capped}

-- the least instant after now, up to the last, at which the test holds
pub record IsFirst (p : ℕ → Bool) (now t : ℕ) : Type 0 where
  pub after : now < t
  pub inside : t ≤ LAST_MINUTE
  pub here : p t ≡ true
  pub least : (u : ℕ) → now < u → u < t → p u ≡ false

-- or none, where it holds at none of them
abbrev pub IsFirstOrNone : (ℕ → Bool) → ℕ → Option ℕ → Type 0
IsFirstOrNone p now o =
    MatchOption o ((u : ℕ) → now < u → u ≤ LAST_MINUTE → p u ≡ false) (IsFirst p now)

-- whether the role has a cap on the minutes of an activation or of a day, which alone end
-- activations
abbrev pub limits_minutes : Caps → Bool
limits_minutes c = is_some c.length || is_some c.day

-- whether a cap drops an activation at the close of t, as long as nothing else ends one
abbrev pub is_any_capped : List Caps → ℕ → Table → ℕ → Bool
is_any_capped caps now tb t = list_any (is_capped caps now tb t) tb.active

-- the same in the words of the rows
abbrev pub capped_in : List Caps → Charged → List Activation → ℕ → ℕ → Activation → Bool
capped_in caps rows active now t a =
    reached (caps_of caps a.role).length (t - a.begun)
    || reached (caps_of caps a.role).day
    (charged_in rows a.user a.role (day_of t) + minutes_of_day now (t - now) (day_of t) *
    count_by (is_of a.user a.role) active)
