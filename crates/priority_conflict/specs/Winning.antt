-- Winners of a set, and who leads a fluent in it.
use Rattle.std.specs.Prelude.{◌≡◌, ◌≤◌, ℕ, Bool, true, false, ◌||◌, not, nat_le, nat_lt, Option, Some, None, if◌then◌else◌}
use Rattle.gt_base.specs.declared.events.Event.{Event}
use Rattle.gt_base.specs.declared.events.Fluent.{Fluent}
use Rattle.gt_base.specs.declared.events.Prioritised.{Prioritised}
use Rattle.gt_base.specs.Events.{converse}
use Rattle.gt_base.specs.Happening.{Events}
use Rattle.gt_base.specs.Sets.{has}
use Rattle.gtrbac_model.specs.Conflict.{Status, beats, turns_on, turns_off}
use Rattle.gtrbac_model.specs.Same.{same_event}

-- the status that winners make of one
abbrev pub turned_by : (Event → Bool) → Status → Status
turned_by wins before f = if wins (turns_on f) then true else if wins (turns_off f) then false
    else before f

-- no event stands beside its converse, as winners never do
abbrev pub IsApart : Events → Type 0
IsApart s = (e : Event) → has s e ≡ true → has s (converse e) ≡ false

-- the event stands there at the priority, and at none above it
pub record StandsTop (there : Prioritised → Bool) (e : Event) (q : ℕ) : Type 0 where
  pub stands : there (record { prio = q; event = e }) ≡ true
  pub top : (o : ℕ) → there (record { prio = o; event = e }) ≡ true → o ≤ q

-- the greatest priority at which the event stands there, if it stands there
abbrev pub IsStrongest : (Prioritised → Bool) → Event → Option ℕ → Type 0
IsStrongest there e None = (o : ℕ) → there (record { prio = o; event = e }) ≡ false
IsStrongest there e (Some q) = StandsTop there e q

-- of two events of one fluent the first is not above the second; at equal priority the off event is
-- above the on event
abbrev pub is_under : Prioritised → Prioritised → Bool
is_under o q = if o.event.on || not q.event.on then nat_le o.prio q.prio else nat_lt o.prio q.prio

-- the event is one of those there and is of the fluent, and none of the fluent is above it
pub record Leads (there : Prioritised → Bool) (f : Fluent) (q : Prioritised) : Type 0 where
  pub stands : there q ≡ true
  pub of_fluent : q.event.fluent ≡ f
  pub top : (o : Prioritised) → o.event.fluent ≡ f → there o ≡ true → is_under o q ≡ true

-- the leader of the fluent, if any event of it is there
abbrev pub IsLeader : (Prioritised → Bool) → Fluent → Option Prioritised → Type 0
IsLeader there f None = (o : Prioritised) → o.event.fluent ≡ f → there o ≡ false
IsLeader there f (Some q) = Leads there f q

-- who leads after one more event of the fluent: it, unless the leader stands against it
abbrev pub leader_after : Option Prioritised → Prioritised → Prioritised
leader_after None p = p
leader_after (Some q) p = if beats q.event.on p.prio q.prio then p else q

-- whether the leader is the event
abbrev pub led : Option Prioritised → Event → Bool
led None e = false
led (Some q) e = same_event q.event e
