-- Triggers that undo their own cause: a base of them settles to no set.
use Rattle.std.specs.Prelude.{◌≡◌, false, List, [], ◌∷◌, Some}
use Rattle.gt_base.specs.declared.events.Fluent.TheVariants.{Enabled}
use Rattle.gt_base.specs.Held.{TriggerView}
use Rattle.gt_base.specs.Happening.{HappenedView}
use Rattle.gtrbac_model.specs.Conflict.{Status}
use Rattle.gtrbac_model.specs.Instant.{Settled}
use Rattle.gtrbac_model.specs.Safety.{the_cycle}
use Rattle.walk_laws.specs.Rivals.{enable, disable, at, when, of}

-- when disable a then 60:enable a
abbrev pub liar : List TriggerView
liar = when (disable 0) (at 60 (enable 0)) ∷ []

-- the base 50:disable a
abbrev pub one_disabled : HappenedView
one_disabled = of (at 50 (disable 0) ∷ [])

-- the conflict of the trigger with itself is the cycle
abbrev pub LiarHasCycle : Type 0
LiarHasCycle = the_cycle liar ≡ Some (0 ∷ [])

-- no set is settled over the base: with the head in it the trigger is not met, and without it the
-- trigger is
abbrev pub LiarSettlesNever : Type 0
LiarSettlesNever = (s : Status) (x : HappenedView) → Settled liar one_disabled s x → ⊥

-- when enable a and settled disabled b then 50:enable b
abbrev pub waverer : List TriggerView
waverer =
    record {
      events = enable 0 ∷ [];
      signals = [];
      conds = [];
      settled = record { on = false; fluent = Enabled (record { 0 = 1 }) } ∷ [];
      head = at 50 (enable 1);
      delay = 0;
    } ∷ []

-- the base 50:enable a
abbrev pub one_enabled : HappenedView
one_enabled = of (at 50 (enable 0) ∷ [])

abbrev pub WavererHasCycle : Type 0
WavererHasCycle = the_cycle waverer ≡ Some (0 ∷ [])

-- where b is off before, no set is settled over the base: with the head b is on after it, and
-- without it b is off
abbrev pub WavererSettlesNever : Type 0
WavererSettlesNever = (s : Status) (x : HappenedView) → s (Enabled (record { 0 = 1 })) ≡ false
    → Settled waverer one_enabled s x → ⊥
