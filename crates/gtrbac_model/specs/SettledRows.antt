-- Worked rows of conditions on the status after the instant: roles a, b, c, d are 0 to 3.
use Rattle.std.specs.Prelude.{◌≡◌, ℕ, true, false, List, [], ◌∷◌, Some, None}
use Rattle.gt_base.specs.declared.events.Cond.{Cond}
use Rattle.gt_base.specs.declared.events.Event.{Event}
use Rattle.gt_base.specs.declared.events.Fluent.TheVariants.{Enabled}
use Rattle.gt_base.specs.declared.events.Prioritised.{Prioritised}
use Rattle.gt_base.specs.Held.{TriggerView}
use Rattle.gtrbac_model.specs.Conflict.{after}
use Rattle.gtrbac_model.specs.Instant.{closed, grounded_after, Settled}
use Rattle.gtrbac_model.specs.Safety.{the_cycle, dependencies}
use Rattle.gtrbac_model.specs.ConflictRows.{role, on, off, at, when, events, all_off}

abbrev pub enabled : ℕ → Cond
enabled n = record { on = true; fluent = Enabled (role n) }

abbrev pub disabled : ℕ → Cond
disabled n = record { on = false; fluent = Enabled (role n) }

abbrev pub when_settled : Event → Cond → Prioritised → TriggerView
when_settled b c h = record {
  events = b ∷ [];
  signals = [];
  conds = [];
  settled = c ∷ [];
  head = h;
  delay = 0;
}

-- when enable a and settled enabled b then 50:enable c
abbrev pub guarded : List TriggerView
guarded = when_settled (on 0) (enabled 1) (at 50 (on 2)) ∷ []

-- the same without the word `settled`
abbrev pub guarded_before : List TriggerView
guarded_before = record {
  events = on 0 ∷ [];
  signals = [];
  conds = enabled 1 ∷ [];
  settled = [];
  head = at 50 (on 2);
  delay = 0;
} ∷ []

-- b is enabled at the instant itself
abbrev pub two_enabled : List Prioritised
two_enabled = at 50 (on 0) ∷ at 50 (on 1) ∷ []

-- and disabled at a higher priority
abbrev pub overruled : List Prioritised
overruled = at 60 (off 1) ∷ two_enabled

-- when enable d then 60:disable b, after the trigger that asks for b
abbrev pub decided_below : List TriggerView
decided_below = when_settled (on 0) (enabled 1) (at 50 (on 2)) ∷ when (on 3) (at 60 (off 1)) ∷ []

abbrev pub three_enabled : List Prioritised
three_enabled = at 50 (on 3) ∷ two_enabled

-- when enable a and settled disabled b then 50:enable b
abbrev pub undoes_itself : List TriggerView
undoes_itself = when_settled (on 0) (disabled 1) (at 50 (on 1)) ∷ []

-- the events of a and of b are nodes
abbrev pub all_nodes : List TriggerView
all_nodes =
    when_settled (on 0) (enabled 1) (at 50 (on 2)) ∷ when (on 3) (at 50 (on 0))
    ∷ when (on 3) (at 50 (off 0)) ∷ when (on 3) (at 50 (on 1)) ∷ when (on 3) (at 50 (off 1))
    ∷ []

pub record AreSettledRows : Type 0 where
  pub sees_own_event : Settled guarded (events two_enabled) all_off
      (events (at 50 (on 2) ∷ two_enabled))
  pub then_on : after (events (at 50 (on 2) ∷ two_enabled)) all_off (Enabled (role 2)) ≡ true
  pub head_is_owed : closed guarded (events two_enabled) all_off (events two_enabled) ≡ false
  pub before_sees_not : Settled guarded_before (events two_enabled) all_off (events two_enabled)
  pub then_off : after (events two_enabled) all_off (Enabled (role 2)) ≡ false
  pub overruled_sees_not : Settled guarded (events overruled) all_off (events overruled)
  pub overruled_off : after (events overruled) all_off (Enabled (role 2)) ≡ false
  -- where nothing happens to b, the status before decides
  pub kept : Settled guarded (events (at 50 (on 0) ∷ [])) (λ f. true)
      (events (at 50 (on 2) ∷ at 50 (on 0) ∷ []))
  -- a trigger of a lower level decides first, though the text has it later
  pub decided_first : Settled decided_below (events three_enabled) all_off
      (events (at 60 (off 1) ∷ three_enabled))
  pub not_asked_before : grounded_after decided_below (events three_enabled) all_off
      (events (at 60 (off 1) ∷ at 50 (on 2) ∷ three_enabled)) []
      (at 50 (on 0) ∷ at 50 (on 1) ∷ at 50 (on 3) ∷ at 50 (on 2) ∷ at 60 (off 1) ∷ []) ≡ false
  pub decided_is_safe : the_cycle decided_below ≡ None
  pub decided_edges : dependencies decided_below
      ≡ record { source = off 1; target = on 2; conflict = true; trigger = 0; place = 1 } ∷ []
  -- by place: the body event, plain before conflict, and then the settled condition, on before off
  pub numbered_by_place : dependencies all_nodes
      ≡ record { source = on 0; target = on 2; conflict = false; trigger = 0; place = 0 }
      ∷ record { source = off 0; target = on 2; conflict = true; trigger = 0; place = 0 }
      ∷ record { source = on 1; target = on 2; conflict = true; trigger = 0; place = 1 }
      ∷ record { source = off 1; target = on 2; conflict = true; trigger = 0; place = 1 }
      ∷ []
  pub undoing_edges : dependencies undoes_itself
      ≡ record { source = on 1; target = on 1; conflict = true; trigger = 0; place = 1 } ∷ []
  pub undoing_cycle : the_cycle undoes_itself ≡ Some (0 ∷ [])
