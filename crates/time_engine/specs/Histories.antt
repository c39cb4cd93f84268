-- Timelines that follow a history and its model: what they say is what the model says at the
-- history's now.
use Rattle.std.specs.Prelude.{◌≡◌, ℕ, ◌-◌, ◌<◌, ◌≤◌, ◌||◌, List, [], ◌∷◌, ◌++◌}
use Rattle.std.specs.List.{list_any}
use Rattle.std.specs.Ordering.{eq_by_cmp}
use Rattle.gt_base.specs.Machines.{ticked, asked}
use Rattle.gt_base.specs.Orders.{prioritised_cmp, signal_cmp}
use Rattle.gt_base.specs.Sets.{has, none}
use Rattle.gt_base.specs.declared.events.Fluent.{Fluent}
use Rattle.gt_base.specs.declared.events.Prioritised.{Prioritised}
use Rattle.gt_base.specs.declared.events.Signal.{Signal}
use Rattle.gt_base.specs.declared.requests.Who.{Who}
use Rattle.gt_base.specs.declared.requests.Actor.{Actor}
use Rattle.gt_base.specs.declared.requests.Request.{Request}
use Rattle.gt_base.specs.declared.requests.Request.TheVariants.{Raise}
use Rattle.gt_base.specs.declared.requests.Reply.{Reply}
use Rattle.gt_base.specs.declared.requests.Reply.TheVariants.{Queued}
use Rattle.gt_base.specs.declared.requests.Entry.{Entry}
use Rattle.gt_base.specs.declared.limits.TheConstants.{LAST_MINUTE}
use Rattle.gtrbac_model.specs.Policy.{Policy}
use Rattle.gtrbac_model.specs.Base.{status, base_at, raised_at, signals_at, drops_at, table_at, queued_at}
use Rattle.gtrbac_model.specs.History.{Legal, IsNextStop, is_some_item, now_of}
use Rattle.gtrbac_model.specs.Status.{Model, since}
use Rattle.history_laws.specs.Pending.{NothingBetween, pending}
use Rattle.gtrbac_model.specs.WholePolicy.{IsPolicy}
use Rattle.history_laws.specs.Tables.{EndNothing}
use Rattle.history_laws.specs.Ticking.{with_set}
use Rattle.delay_agenda.specs.Due.{pending_at}
use Rattle.instant_bases.specs.Timelines.{TimelineView, StandsFor, base_in, raised_in, signals_in, since_of, stirs_in}
use Rattle.time_engine.specs.Plans.{PlanView, IsPlan, IsAfter, IsTimeline, with_pending}
use Rattle.time_engine.specs.Traces.{model_of}

-- the timeline is one of the policy; birth and now are the history's; the status, the ages and the
-- sets are the model's; and what is pending is what is on its way
pub record Follows (p : Policy) (birth : ℕ) (h : List Entry) (m : Model)
    (v : TimelineView) : Type 0 where
  pub stands : StandsFor p v
  pub born : v.birth ≡ birth
  pub now : v.now ≡ now_of birth h
  pub status : (f : Fluent) → has v.status f ≡ status p birth m v.now f
  pub since : (f : Fluent) → since_of v f ≡ since p birth m f v.now
  pub sets : (t : ℕ) → birth < t → t ≤ v.now → model_of v.trace t ≡ m t
  pub pending : (t : ℕ) (e : Prioritised) → v.now < t → t ≤ LAST_MINUTE
      → has v.pending (pending_at t e)
      ≡ list_any (eq_by_cmp prioritised_cmp e) (pending p birth m h t)

-- up to an instant the signals of the history are those of the timeline
abbrev pub SignalsFollow : Policy → ℕ → Model → List Entry → TimelineView → ℕ → Type 0
SignalsFollow p birth m h v to =
    (t : ℕ) → v.now < t → t ≤ to → (x : Signal)
    → list_any (eq_by_cmp signal_cmp x) (signals_at p birth m h t)
    ≡ list_any (eq_by_cmp signal_cmp x) (signals_in v t)

-- at its birth a timeline follows the empty history
abbrev pub BornFollows : Type 0
BornFollows =
    (p : Policy) (birth : ℕ) (m : Model) (v : TimelineView) → StandsFor p v → v.birth ≡ birth
    → v.now ≡ birth → v.status ≡ p.opening → ((f : Fluent) → since_of v f ≡ birth)
    → v.trace ≡ [] → v.pending ≡ none → Follows p birth [] m v

-- an instant before which nothing happens has the base that the timeline says
abbrev pub BaseFollows : Type 0
BaseFollows =
    (p : Policy) → IsPolicy p → (birth : ℕ) (h : List Entry) (m : Model) (v : TimelineView)
    → Follows p birth h m v
    → (t : ℕ) → birth ≤ v.now → v.now < t → t ≤ LAST_MINUTE → NothingBetween m v.now t
    → SignalsFollow p birth m h v t → base_at p birth m h t ≡ base_in p v t

-- and raises something exactly where the timeline does
abbrev pub RaisedFollows : Type 0
RaisedFollows =
    (p : Policy) → IsPolicy p → (birth : ℕ) (h : List Entry) (m : Model) (v : TimelineView)
    → Follows p birth h m v
    → (t : ℕ) → birth ≤ v.now → v.now < t → t ≤ LAST_MINUTE → NothingBetween m v.now t
    → is_some_item (raised_at p birth m h t) ≡ is_some_item (raised_in p v t)

-- a tick to the instant of a plan, where that is the next at which the timeline raises something or
-- an activation ends, or the bound, keeps the history legal, with the plan's set as the one set
-- more; and the plan's base is that of the definitions
pub record ClosesLegally (p : Policy) (birth : ℕ) (h : List Entry) (n : Model) (plan : PlanView)
    (who : Who) (upto : ℕ) : Type 0 where
  pub legal : Legal p birth (h ++ ticked who upto plan.at ∷ []) n
  pub base : plan.base ≡ base_at p birth n h plan.at

abbrev pub CloseIsLegal : Type 0
CloseIsLegal =
    (p : Policy) → IsPolicy p → (birth : ℕ) (h : List Entry) (m : Model) (v : TimelineView)
    (plan : PlanView) (who : Who) (upto : ℕ)
    → Legal p birth h m → IsTimeline v → Follows p birth h m v → IsPlan p v plan
    → plan.at ≤ LAST_MINUTE
    → SignalsFollow p birth (with_set m (now_of birth h) plan.at plan.set) h v plan.at
    → IsNextStop (λ t. stirs_in p v t || is_some_item
    (drops_at p birth (with_set m (now_of birth h) plan.at plan.set) h t)) v.now upto plan.at
    → ClosesLegally p birth h (with_set m (now_of birth h) plan.at plan.set) plan who upto

-- and the timeline after the plan follows the longer history
abbrev pub CloseFollows : Type 0
CloseFollows =
    (p : Policy) → IsPolicy p → (birth : ℕ) (h : List Entry) (m : Model) (v w : TimelineView)
    (plan : PlanView) (who : Who) (upto : ℕ)
    → IsTimeline v → Follows p birth h m v → IsPlan p v plan → v.now < plan.at → IsAfter v plan w
    → Follows p birth (h ++ ticked who upto plan.at ∷ [])
    (with_set m (now_of birth h) plan.at plan.set) w

-- a request that queues nothing leaves the timeline following, and one that queues an event follows
-- with its pair
pub record AskFollows (p : Policy) (birth : ℕ) (h : List Entry) (m : Model) (v : TimelineView)
    (who : Who) (actor : Actor) : Type 0 where
  pub others : (request : Request) (reply : Reply) → ((t : ℕ) → queued_at t request reply ≡ [])
      → Follows p birth (h ++ asked who actor request reply ∷ []) m v
  pub raises : (head : Prioritised) (delay due : ℕ)
      → Follows p birth (h ++ asked who actor (Raise head delay) (Queued due) ∷ []) m
      (with_pending v due head)

abbrev pub AskKeepsFollowing : Type 0
AskKeepsFollowing = (p : Policy) (birth : ℕ) (h : List Entry) (m : Model) (v : TimelineView)
    → Follows p birth h m v → (who : Who) (actor : Actor) → AskFollows p birth h m v who actor

-- where the table's signals are those that wait, and the minutes after now that a close passes over
-- end no activation, the signals of the history are the timeline's
abbrev pub WaitingFollow : Type 0
WaitingFollow =
    (p : Policy) (birth : ℕ) (h : List Entry) (m n : Model) (v : TimelineView) (to : ℕ)
    → Legal p birth h m → v.now ≡ now_of birth h
    → ((x : Signal) → list_any (eq_by_cmp signal_cmp x) (table_at p birth n h v.now).signals
    ≡ has v.signals x)
    → EndNothing p.edges p.caps (status p birth n) v.now (to - 1 - v.now)
    (table_at p birth n h v.now) → SignalsFollow p birth n h v to
