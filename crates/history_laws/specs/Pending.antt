-- The events that are on their way to a later instant, and stretches in which nothing happens.
use Rattle.std.specs.Prelude.{◌≡◌, ℕ, ◌+◌, ◌-◌, ◌<◌, ◌≤◌, true, nat_eq, nat_le, nat_lt, ◌&&◌, List, [], ◌∷◌, ◌++◌, flat_map, if◌then◌else◌}
use Rattle.gt_base.specs.Held.{TriggerView}
use Rattle.gt_base.specs.Happening.{nothing}
use Rattle.gt_base.specs.Machines.{asked}
use Rattle.gt_base.specs.declared.events.Fluent.{Fluent}
use Rattle.gt_base.specs.declared.events.Prioritised.{Prioritised}
use Rattle.gt_base.specs.declared.requests.Who.{Who}
use Rattle.gt_base.specs.declared.requests.Actor.{Actor}
use Rattle.gt_base.specs.declared.requests.Request.{Request}
use Rattle.gt_base.specs.declared.requests.Reply.{Reply}
use Rattle.gt_base.specs.declared.requests.Entry.{Entry}
use Rattle.gtrbac_model.specs.Policy.{Policy}
use Rattle.gtrbac_model.specs.Trigger.{met}
use Rattle.gtrbac_model.specs.Status.{Model, since}
use Rattle.gtrbac_model.specs.Base.{status, raised_at, requested, queued_at, periodic, limited, when}
use Rattle.gtrbac_model.specs.History.{now_of}
use Rattle.gtrbac_model.specs.WholePolicy.{IsPolicy, has_cause}

-- nothing happens after the first instant and before the other
abbrev pub NothingBetween : Model → ℕ → ℕ → Type 0
NothingBetween m from to = (u : ℕ) → from < u → u < to → m u ≡ nothing

-- over a stretch in which nothing happens no fluent changes
abbrev pub StretchStays : Type 0
StretchStays =
    (p : Policy) (birth : ℕ) (m : Model) (from k : ℕ) → birth ≤ from
    → NothingBetween m from (from + k + 1)
    → (status p birth m (from + k) ≡ status p birth m from)
    × ((f : Fluent) → since p birth m f (from + k) ≡ since p birth m f from)

-- what a delayed trigger raises at t, as far as it is known at `from`: its head, where it was met
-- its delay before t
abbrev pub known_head : Policy → ℕ → Model → ℕ → ℕ → TriggerView → List Prioritised
known_head p birth m from t r =
    if nat_lt 0 r.delay && nat_lt birth (t - r.delay) && nat_le (t - r.delay) from
    then when (met r (m (t - r.delay)) (status p birth m (t - r.delay - 1))) r.head else []

-- what is on its way to t: the requests queued for it, and the heads of delayed triggers
abbrev pub pending : Policy → ℕ → Model → List Entry → ℕ → List Prioritised
pending p birth m h t = requested h t
    ++ flat_map (known_head p birth m (now_of birth h) t) p.triggers

-- while nothing happens after now, a later instant raises what is on its way to it, with the
-- periodic entries and the limits
abbrev pub PendingIsRaised : Type 0
PendingIsRaised =
    (p : Policy) → IsPolicy p → (birth : ℕ) (h : List Entry) (m : Model) (t : ℕ)
    → NothingBetween m (now_of birth h) t
    → raised_at p birth m h t ≡ periodic p birth t ++ pending p birth m h t
    ++ limited p (status p birth m (t - 1)) (λ f. since p birth m f (t - 1)) t

-- a request puts on its way what its reply says
abbrev pub PendingAfterAsk : Type 0
PendingAfterAsk =
    (p : Policy) (birth : ℕ) (h : List Entry) (m : Model) (who : Who) (actor : Actor)
    (request : Request) (reply : Reply) (t : ℕ)
    → pending p birth m (h ++ asked who actor request reply ∷ []) t ≡ requested h t
    ++ queued_at t request reply
    ++ flat_map (known_head p birth m (now_of birth h) t) p.triggers

-- going on to an instant before which nothing happens puts on its way the heads of the delayed
-- triggers met there
abbrev pub HeadsAfterTick : Type 0
HeadsAfterTick =
    (p : Policy) (birth : ℕ) (m : Model) (now to t : ℕ) (r : TriggerView) → has_cause r ≡ true
    → birth ≤ now → now < to → NothingBetween m now to
    → known_head p birth m to t r
    ≡ (if nat_lt 0 r.delay && nat_eq (t - r.delay) to
    then when (met r (m to) (status p birth m (to - 1))) r.head else known_head p birth m now t r)
