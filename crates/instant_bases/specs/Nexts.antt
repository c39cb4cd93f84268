-- The least later instant that passes a test, or none up to the last one.
use Rattle.std.specs.Prelude.{ℕ, Bool, List, Option, Some, None}
use Rattle.gt_base.specs.declared.policies.PeriodicEntry.{PeriodicEntry}
use Rattle.gt_base.specs.declared.policies.LimitRule.{LimitRule}
use Rattle.gtrbac_model.specs.Base.{raised_by}
use Rattle.gtrbac_model.specs.History.{is_some_item}
use Rattle.gtrbac_model.specs.Period.{Period}
use Rattle.gt_base.specs.declared.events.Prioritised.{Prioritised}
use Rattle.gt_base.specs.Events.{converse}
use Rattle.calendar_match.specs.Next.{IsNext, HasNone}

-- the answer is the least instant after this one that passes, and None exactly where none does
abbrev pub IsNextOf : (ℕ → Bool) → ℕ → Option ℕ → Type 0
IsNextOf test after None = HasNone test after
IsNextOf test after (Some t) = IsNext test after t

-- whether the entry raises something at the instant
abbrev pub raises : List Period → ℕ → PeriodicEntry → ℕ → Bool
raises periods birth e t = is_some_item (raised_by periods birth t e)

-- the converse of the limit's condition, at its priority
abbrev pub ending : LimitRule → Prioritised
ending l = record {
  prio = l.prio;
  event = converse (record { on = l.cond.on; fluent = l.cond.fluent });
}
