-- Fluents of which nothing raises an event.
use Rattle.std.specs.Prelude.{Bool, false, ◌||◌, List}
use Rattle.std.specs.List.{list_any}
use Rattle.gt_base.specs.declared.events.Fluent.{Fluent}
use Rattle.gt_base.specs.declared.policies.LimitRule.{LimitRule}
use Rattle.gt_base.specs.declared.policies.PeriodicEntry.{PeriodicEntry}
use Rattle.gt_base.specs.declared.requests.Entry.{Entry}
use Rattle.gt_base.specs.declared.requests.Request.{Request}
use Rattle.gt_base.specs.declared.requests.Request.TheVariants.{Raise}
use Rattle.gt_base.specs.declared.requests.Step.{Step}
use Rattle.gt_base.specs.declared.requests.Step.TheVariants.{Tick, Ask}
use Rattle.gt_base.specs.Held.{TriggerView}
use Rattle.gtrbac_model.specs.Policy.{Policy}
use Rattle.gtrbac_model.specs.Same.{same_fluent}

abbrev pub asks_for : Fluent → Request → Bool
asks_for f (Raise head delay) = same_fluent head.event.fluent f
asks_for f _ = false

abbrev pub asked_by : Fluent → Step → Bool
asked_by f (Tick upto to) = false
asked_by f (Ask actor request reply) = asks_for f request

-- some periodic entry, trigger, limit rule or request of the entries is for an event of the fluent
abbrev pub in_entries : Fluent → List PeriodicEntry → Bool
in_entries f = list_any (λ e. same_fluent e.head.event.fluent f)

abbrev pub in_triggers : Fluent → List TriggerView → Bool
in_triggers f = list_any (λ r. same_fluent r.head.event.fluent f)

abbrev pub in_limits : Fluent → List LimitRule → Bool
in_limits f = list_any (λ l. same_fluent l.cond.fluent f)

abbrev pub in_history : Fluent → List Entry → Bool
in_history f = list_any (λ e. asked_by f e.what)

abbrev pub is_raised : Policy → List Entry → Fluent → Bool
is_raised p h f =
    in_entries f p.entries || in_triggers f p.triggers || in_limits f p.limits || in_history f h
