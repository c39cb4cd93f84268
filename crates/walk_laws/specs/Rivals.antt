-- Unsafe triggers: that they are safe is needed.
use Rattle.std.specs.Prelude.{◌≡◌, ℕ, true, false, List, [], ◌∷◌, Some}
use Rattle.gt_base.specs.declared.events.Event.{Event}
use Rattle.gt_base.specs.declared.events.Fluent.TheVariants.{Enabled}
use Rattle.gt_base.specs.declared.events.Prioritised.{Prioritised}
use Rattle.gt_base.specs.Held.{TriggerView}
use Rattle.gt_base.specs.Happening.{HappenedView}
use Rattle.gt_base.specs.Sets.{set_of, none}
use Rattle.gtrbac_model.specs.Conflict.{Status}
use Rattle.gtrbac_model.specs.Instant.{Settled}
use Rattle.gtrbac_model.specs.Safety.{the_cycle}

abbrev pub enable : ℕ → Event
enable n = record { on = true; fluent = Enabled (record { 0 = n }) }

abbrev pub disable : ℕ → Event
disable n = record { on = false; fluent = Enabled (record { 0 = n }) }

abbrev pub at : ℕ → Event → Prioritised
at p e = record { prio = p; event = e }

abbrev pub when : Event → Prioritised → TriggerView
when b h = record { events = b ∷ []; signals = []; conds = []; settled = []; head = h; delay = 0 }

abbrev pub of : List Prioritised → HappenedView
of es = record { events = set_of es; signals = none }

abbrev pub nothing_on : Status
nothing_on f = false

-- when enable a then 60:disable b; when enable b then 60:disable a
abbrev pub rivals : List TriggerView
rivals = when (enable 0) (at 60 (disable 1)) ∷ when (enable 1) (at 60 (disable 0)) ∷ []

abbrev pub both_enabled : HappenedView
both_enabled = of (at 50 (enable 0) ∷ at 50 (enable 1) ∷ [])

-- the set in which this one is disabled
abbrev pub loses : ℕ → HappenedView
loses n = of (at 50 (enable 0) ∷ at 50 (enable 1) ∷ at 60 (disable n) ∷ [])

-- the rivals are not safe: the conflict of the first closes a cycle with that of the second
abbrev pub RivalsHaveCycle : Type 0
RivalsHaveCycle = the_cycle rivals ≡ Some (0 ∷ 1 ∷ [])

-- each of the two may disable the other
pub record RivalsSettleTwice : Type 0 where
  pub one : Settled rivals both_enabled nothing_on (loses 1)
  pub two : Settled rivals both_enabled nothing_on (loses 0)
  pub differ : loses 1 ≡ loses 0 → ⊥
