-- What ages and ripe limits are in the model.
use Rattle.std.specs.Prelude.{◌≡◌, ℕ, ◌<◌, ◌≤◌, ◌-◌, Bool, true, ◌&&◌, List, Some, None, if◌then◌else◌}
use Rattle.gt_base.specs.declared.events.Fluent.{Fluent}
use Rattle.gt_base.specs.declared.policies.LimitRule.{LimitRule}
use Rattle.gtrbac_model.specs.Base.{is_ripe, period_test}
use Rattle.gtrbac_model.specs.Conflict.{Status}
use Rattle.gtrbac_model.specs.Period.{Period, inside}
use Rattle.gtrbac_model.specs.Policy.{Policy}
use Rattle.gtrbac_model.specs.Status.{Model, status_at, differ, since}
use Rattle.duration_limits.specs.Aged.{is_aged}

-- whether t is in the limit's period, if it has one
abbrev pub in_period : List Period → LimitRule → ℕ → Bool
in_period periods l t = elim l.period [ None ↦ true | Some id ↦ period_test inside periods id t ]

-- a limit is ripe where it has run for long enough and its period is there
abbrev pub RipeIsAged : Type 0
RipeIsAged = (periods : List Period) (before : Status) (since : Fluent → ℕ) (n : ℕ) (l : LimitRule)
    (t : ℕ)
    → is_ripe periods before since n l t ≡ (is_aged before since n l t && in_period periods l t)

-- whether the fluent is not at t what it was a minute before
abbrev pub changes_at : Policy → ℕ → Model → Fluent → ℕ → Bool
changes_at p birth m f t = differ (status_at p birth m t f) (status_at p birth m (t - 1) f)

-- at the birth each fluent has the birth, and at each later instant those that change have that
-- one; none has a later one
pub record SinceBySteps (p : Policy) (birth : ℕ) (m : Model) : Type 0 where
  pub begins : (f : Fluent) → since p birth m f birth ≡ birth
  pub follows : (f : Fluent) (t : ℕ) → birth < t
      → since p birth m f t ≡ (if changes_at p birth m f t then t else since p birth m f (t - 1))
  pub low : (f : Fluent) (t : ℕ) → birth ≤ since p birth m f t
  pub high : (f : Fluent) (t : ℕ) → birth ≤ t → since p birth m f t ≤ t
