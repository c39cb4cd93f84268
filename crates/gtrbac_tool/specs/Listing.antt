-- Certificates made of a trace: each set is listed in an order that supports it.
use Rattle.std.specs.Prelude.{◌≡◌, ℕ, ◌≤◌, Bool, ◌&&◌, not, List, [], ◌∷◌, ◌++◌, Option, Some, None, IsTrue, if◌then◌else◌}
use Rattle.std.specs.List.{list_all}
use Rattle.gt_base.specs.Held.{TriggerView}
use Rattle.gt_base.specs.Happening.{HappenedView}
use Rattle.gt_base.specs.declared.events.Event.{Event}
use Rattle.gt_base.specs.declared.events.Prioritised.{Prioritised}
use Rattle.gtrbac_model.specs.Conflict.{Status, after}
use Rattle.gtrbac_model.specs.Instant.{stands, grounded_after, Settled}
use Rattle.gtrbac_model.specs.Same.{lists, same_prioritised}
use Rattle.gtrbac_model.specs.Trigger.{met, immediate}
use Rattle.instant_bases.specs.Timelines.{ClosedSet}
use Rattle.trigger_rules.specs.Indexed.{with_event}
use Rattle.why_check.specs.Certificates.{Listed, set_in}
use Rattle.why_check.specs.Standing.{stands_in}
use Rattle.gtrbac_tool.specs.Joined.{has_joined}
use Rattle.gtrbac_tool.specs.declared.explaining.Order.{Order}

-- what is there is what is listed, and what stands is what stands of it in the set
pub record Tracks (x : HappenedView) (o : Order) : Type 0 where
  pub there : (e : Prioritised) → has_joined o.there e ≡ lists same_prioritised o.events.items e
  pub standing : (f : Event) → stands_in o.standing f ≡ stands x o.events.items f

-- the trigger is immediate, its head is not listed, it is met in the set, and its body events stand
-- among those listed
abbrev pub raises_next : Status → HappenedView → List Prioritised → TriggerView → Bool
raises_next s x es r =
    immediate r && not (lists same_prioritised es r.head) && met r x s && list_all (stands x es)
    r.events

-- the head of such a trigger
abbrev pub next_head : Status → HappenedView → List Prioritised → Option TriggerView
    → Option Prioritised
next_head s x es None = None
next_head s x es (Some r) = if raises_next s x es r then Some r.head else None

-- with the head at the end
abbrev pub with_head : List Prioritised → Option Prioritised → List Prioritised
with_head es None = es
with_head es (Some h) = es ++ h ∷ []

-- the numbers, with those of the triggers that have the head in their bodies
abbrev pub waiting_with : List TriggerView → List ℕ → Option Prioritised → List ℕ
waiting_with rules ts None = ts
waiting_with rules ts (Some h) = ts ++ with_event rules h.event

-- each set is settled over its base and the status that the sets before it make
abbrev pub AreSettled : List TriggerView → Status → List ClosedSet → Type 0
AreSettled rules s [] = Unit {0}
AreSettled rules s (c ∷ cs) = Settled rules c.base s c.set × AreSettled rules (after c.set s) cs

-- all but the last are before the instant
abbrev pub OnlyLastReaches : ℕ → List ClosedSet → Type 0
OnlyLastReaches t [] = Unit {0}
OnlyLastReaches t (c ∷ cs) = (t ≤ c.at → cs ≡ []) × OnlyLastReaches t cs

-- the listing is of the instant and of the set, and each of its events is supported by those before
-- it
pub record IsListing (rules : List TriggerView) (s : Status) (c : ClosedSet) (l : Listed)
    : Type 0 where
  pub at : l.at ≡ c.at
  pub set : set_in l ≡ c.set
  pub order : IsTrue (grounded_after rules c.base s c.set [] l.events)

-- the listings are those of the sets, one for each
abbrev pub AreListings : List TriggerView → Status → List ClosedSet → List Listed → Type 0
AreListings rules s [] [] = Unit {0}
AreListings rules s [] (l ∷ ls) = ⊥
AreListings rules s (c ∷ cs) [] = ⊥
AreListings rules s (c ∷ cs) (l ∷ ls) =
    IsListing rules s c l × AreListings rules (after c.set s) cs ls

-- the listing of a set more
pub record AddsListing (rules : List TriggerView) (s : Status) (c : ClosedSet)
    (old new : List Listed) : Type 0 where
  pub listing : Listed
  pub added : new ≡ old ++ listing ∷ []
  pub is : IsListing rules s c listing
