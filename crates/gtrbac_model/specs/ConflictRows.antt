-- Worked rows of conflict, settled sets and safety: roles a, b, c, d are 0 to 3.
use Rattle.std.specs.Prelude.{◌≡◌, ℕ, true, false, List, [], ◌∷◌, Some, None}
use Rattle.gt_base.specs.declared.events.RoleId.{RoleId}
use Rattle.gt_base.specs.declared.events.UserId.{UserId}
use Rattle.gt_base.specs.declared.events.PermId.{PermId}
use Rattle.gt_base.specs.declared.events.Fluent.TheVariants.{Enabled}
use Rattle.gt_base.specs.declared.events.Event.{Event}
use Rattle.gt_base.specs.declared.events.Prioritised.{Prioritised}
use Rattle.gt_base.specs.declared.requests.Seen.TheVariants.{Unblocked, Blocked, Absent}
use Rattle.gt_base.specs.Held.{TriggerView}
use Rattle.gt_base.specs.Happening.{HappenedView, nothing}
use Rattle.gt_base.specs.Sets.{none, set_of}
use Rattle.gtrbac_model.specs.Conflict.{Status, blocked, after, seen}
use Rattle.gtrbac_model.specs.Instant.{closed, grounded_after, Settled}
use Rattle.gtrbac_model.specs.Safety.{the_cycle, dependencies}

abbrev pub role : ℕ → RoleId
role n = record { 0 = n }

abbrev pub user : ℕ → UserId
user n = record { 0 = n }

abbrev pub perm : ℕ → PermId
perm n = record { 0 = n }

abbrev pub on : ℕ → Event
on n = record { on = true; fluent = Enabled (role n) }

abbrev pub off : ℕ → Event
off n = record { on = false; fluent = Enabled (role n) }

abbrev pub at : ℕ → Event → Prioritised
at p e = record { prio = p; event = e }

abbrev pub when : Event → Prioritised → TriggerView
when b h = record { events = b ∷ []; signals = []; conds = []; settled = []; head = h; delay = 0 }

abbrev pub events : List Prioritised → HappenedView
events es = record { events = set_of es; signals = none }

abbrev pub all_off : Status
all_off f = false

-- Three triggers in an order against their dependencies: roles a, b, c, d are 0 to 3.
abbrev pub chain : List TriggerView
chain = when (on 2) (at 50 (on 3)) ∷ when (on 1) (at 60 (off 2)) ∷ when (on 0) (at 50 (on 1)) ∷ []

abbrev pub chain_base : HappenedView
chain_base = events (at 50 (on 0) ∷ at 50 (on 2) ∷ [])

abbrev pub chain_order : List Prioritised
chain_order = at 60 (off 2) ∷ at 50 (on 1) ∷ at 50 (on 0) ∷ at 50 (on 2) ∷ []

-- two triggers that support each other: nothing stands without a base
abbrev pub ring : List TriggerView
ring = when (on 0) (at 50 (on 1)) ∷ when (on 1) (at 50 (on 0)) ∷ []

-- a conflict cycle
abbrev pub unsafe : List TriggerView
unsafe = when (on 1) (at 50 (on 0)) ∷ when (on 0) (at 50 (off 1)) ∷ []

pub record AreConflictRows : Type 0 where
  pub chain_is_blocked : blocked (events chain_order) (at 50 (on 2)) ≡ true
  pub chain_seen_on : seen (events chain_order) (on 2) ≡ Blocked 50
  pub chain_seen_off : seen (events chain_order) (off 2) ≡ Unblocked 60
  pub chain_seen_none : seen (events chain_order) (on 3) ≡ Absent
  pub chain_after : after (events chain_order) all_off (Enabled (role 1)) ≡ true
  pub chain_is_closed : closed chain chain_base all_off (events chain_order) ≡ true
  -- the triggers run once in the order of the text leave a set that is not closed
  pub once_is_not_closed : closed chain chain_base all_off
      (events (at 50 (on 1) ∷ at 50 (on 3) ∷ at 50 (on 0) ∷ at 50 (on 2) ∷ [])) ≡ false
  pub chain_settles : Settled chain chain_base all_off (events chain_order)
  pub ring_is_closed : closed ring nothing all_off (events (at 50 (on 0) ∷ at 50 (on 1) ∷ []))
      ≡ true
  pub ring_is_not_grounded : grounded_after ring nothing all_off
      (events (at 50 (on 0) ∷ at 50 (on 1) ∷ [])) [] (at 50 (on 0) ∷ at 50 (on 1) ∷ []) ≡ false
  pub ring_is_safe : the_cycle ring ≡ None
  -- equal priorities: the off event wins
  pub tie : after (events (at 50 (on 0) ∷ at 50 (off 0) ∷ [])) (λ f. true) (Enabled (role 0))
      ≡ false
  pub tie_seen : seen (events (at 50 (on 0) ∷ at 50 (off 0) ∷ [])) (on 0) ≡ Blocked 50
  pub cycle_edges : dependencies unsafe
      ≡ record { source = off 1; target = on 0; conflict = true; trigger = 0; place = 0 }
      ∷ record { source = on 0; target = off 1; conflict = false; trigger = 1; place = 0 } ∷ []
  pub the_cycle_is : the_cycle unsafe ≡ Some (0 ∷ 1 ∷ [])
  pub delayed_is_safe : the_cycle (when (on 1) (at 50 (on 0))
      ∷ record {
        events = on 0 ∷ [];
        signals = [];
        conds = [];
        settled = [];
        head = at 50 (off 1);
        delay = 1;
      } ∷ []) ≡ None
