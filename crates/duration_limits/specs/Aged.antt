-- When a duration limit has run for long enough.
use Rattle.std.specs.Prelude.{ℕ, ◌+◌, ◌-◌, Bool, false, ◌&&◌, nat_le, Option, Some, None, if◌then◌else◌}
use Rattle.gt_base.specs.declared.events.Fluent.{Fluent}
use Rattle.gt_base.specs.declared.events.Fluent.TheVariants.{Limit}
use Rattle.gt_base.specs.declared.policies.LimitRule.{LimitRule}
use Rattle.gt_base.specs.declared.limits.TheConstants.{LAST_MINUTE}
use Rattle.gtrbac_model.specs.Conflict.{Status}
use Rattle.gtrbac_model.specs.Trigger.{holds}

-- limit n is on and its condition holds
abbrev pub is_running : Status → ℕ → LimitRule → Bool
is_running s n l = s (Limit (record { 0 = n })) && holds s l.cond

-- it runs, and at t the fluent of its condition has stood for as many minutes as may be
abbrev pub is_aged : Status → (Fluent → ℕ) → ℕ → LimitRule → ℕ → Bool
is_aged s since n l t = is_running s n l && nat_le l.most (t - since l.cond.fluent)

-- the instant m minutes after t, up to the last
abbrev pub minute_after : ℕ → ℕ → Option ℕ
minute_after t m = if nat_le (t + m) LAST_MINUTE then Some (t + m) else None

-- the first instant from which it has run for long enough
abbrev pub aged_from : Status → (Fluent → ℕ) → ℕ → LimitRule → Option ℕ
aged_from s since n l = if is_running s n l then minute_after (since l.cond.fluent) l.most else None

-- there is such an instant, and it is t or before
abbrev pub has_come : Option ℕ → ℕ → Bool
has_come None t = false
has_come (Some u) t = nat_le u t
