-- The running state of the checker, and what it says of a history.
use Rattle.std.specs.Prelude.{◌≡◌, ℕ, ◌+◌, ◌<◌, ◌≤◌, ◌&&◌, nat_eq, nat_lt, List, [], ◌++◌, flat_map, Option, Some, None, IsTrue, if◌then◌else◌}
use Rattle.gt_base.specs.Held.{TriggerView}
use Rattle.gt_base.specs.Happening.{HappenedView}
use Rattle.gt_base.specs.Sets.{has, set_of}
use Rattle.gt_base.specs.declared.events.Fluent.{Fluent}
use Rattle.gt_base.specs.declared.events.Prioritised.{Prioritised}
use Rattle.gt_base.specs.declared.events.Signal.{Signal}
use Rattle.gt_base.specs.declared.policies.HierEdge.{HierEdge}
use Rattle.gt_base.specs.declared.policies.Caps.{Caps}
use Rattle.gt_base.specs.declared.requests.Actor.{Actor}
use Rattle.gt_base.specs.declared.requests.Request.{Request}
use Rattle.gt_base.specs.declared.requests.Reply.{Reply}
use Rattle.gt_base.specs.declared.limits.TheConstants.{LAST_MINUTE}
use Rattle.gtrbac_model.specs.Policy.{Policy}
use Rattle.gtrbac_model.specs.Base.{periodic, limited, queued_at, when}
use Rattle.gtrbac_model.specs.Conflict.{Status, after}
use Rattle.gtrbac_model.specs.Reply.{Point, reply_of}
use Rattle.gtrbac_model.specs.Sessions.{Table, applied, empty_table}
use Rattle.gtrbac_model.specs.Status.{differ}
use Rattle.gtrbac_model.specs.Trigger.{met}
use Rattle.duration_limits.specs.Since.{since_in}
use Rattle.indexmap.specs.IndexMap.{get}
use Rattle.session_table.specs.Tables.{table_of, closed_at}
use Rattle.why_check.specs.Certificates.{Listed, says_something, IsShown}
use Rattle.why_check.specs.declared.replays.Replay.{Replay}

-- the events under a minute, none where it is not there
abbrev pub under : {V : Type 0} → Option V → (V → List Prioritised) → List Prioritised
under None items = []
under (Some v) items = items v

abbrev pub due_in : Replay → ℕ → List Prioritised
due_in s t = under (get nat_eq s.due t) (λ v. v.items)

-- signals stand in the base of the next minute alone
abbrev pub waiting_for : ℕ → List Signal → ℕ → List Signal
waiting_for now waiting t = if nat_eq t (now + 1) then waiting else []

-- the base of a later instant before which nothing happens
abbrev pub raised_in : Policy → Replay → ℕ → List Prioritised
raised_in p s t = (periodic p s.ages.birth t ++ due_in s t)
    ++ limited p (has s.status.set) (since_in s.ages) t

abbrev pub base_in : Policy → Replay → ℕ → HappenedView
base_in p s t = record {
  events = set_of (raised_in p s t);
  signals = set_of (waiting_for s.present s.waiting.items t);
}

abbrev pub with_signals : Table → List Signal → Table
with_signals tb waiting = record tb { signals = waiting }

-- the table with the signals that wait
abbrev pub table_in : Replay → Table
table_in s = record (table_of s.table) { signals = s.waiting.items }

-- the state at the birth
pub record IsBegun (p : Policy) (birth : ℕ) (s : Replay) : Type 0 where
  pub now : s.present ≡ birth
  pub born : s.ages.birth ≡ birth
  pub status : s.status.set ≡ p.opening
  pub since : (f : Fluent) → since_in s.ages f ≡ birth
  pub due : (t : ℕ) → due_in s t ≡ []
  pub table : table_in s ≡ empty_table
  pub charged : s.table.charged_to ≡ None

-- the request is answered so over this table, the signals that wait left out
pub record IsTableReply (tb : Table) (actor : Actor) (request : Request)
    (reply : Reply) : Type 0 where
  pub policy : Policy
  pub point : Point
  pub is : reply ≡ reply_of policy (record point { table = tb }) actor request

-- the same under these edges and caps, in this status and at this instant
pub record IsAnsweredAt (edges : List HierEdge) (caps : List Caps) (s : Status) (now : ℕ)
    (tb : Table) (actor : Actor) (request : Request) (reply : Reply) : Type 0 where
  pub policy : Policy
  pub point : Point
  pub is : reply ≡ reply_of (record policy { edges = edges; caps = caps })
      (record point { now = now; status = s; table = tb }) actor request

-- the head of a delayed trigger that is met at an instant is due at t
abbrev pub joins_at : Status → HappenedView → ℕ → ℕ → TriggerView → List Prioritised
joins_at before x at t r = when (nat_lt 0 r.delay && nat_eq (at + r.delay) t && met r x before)
    r.head

-- the state after an instant is closed with its set
pub record IsClosed (p : Policy) (s : Replay) (x : HappenedView) (to : ℕ)
    (s' : Replay) : Type 0 where
  pub now : s'.present ≡ to
  pub born : s'.ages.birth ≡ s.ages.birth
  pub status : (f : Fluent) → has s'.status.set f ≡ after x (has s.status.set) f
  pub since : (f : Fluent) → since_in s'.ages f
      ≡ (if differ (has s'.status.set f) (has s.status.set f) then to else since_in s.ages f)
  pub due : (t : ℕ) → t ≤ LAST_MINUTE
      → due_in s' t ≡ due_in s t ++ flat_map (joins_at (has s.status.set) x to t) p.triggers
  pub table : table_in s' ≡ closed_at p.edges p.caps (has s'.status.set) s.present to
      (table_of s.table)
  pub charged : s'.table.charged_to ≡ Some to

-- the state after an answered request
pub record IsAsked (s : Replay) (actor : Actor) (request : Request) (reply : Reply)
    (s' : Replay) : Type 0 where
  pub now : s'.present ≡ s.present
  pub ages : s'.ages ≡ s.ages
  pub status : s'.status ≡ s.status
  pub due : (t : ℕ) → due_in s' t ≡ due_in s t ++ queued_at t request reply
  pub table : table_in s' ≡ applied s.present actor request reply (table_in s)
  pub charged : s'.table.charged_to ≡ s.table.charged_to
  pub begun : s'.table.begun ≤ s.table.begun + 1

-- the listing is of the instant, says something and is shown there
pub record IsGood (p : Policy) (base : HappenedView) (s : Status) (to : ℕ)
    (l : Listed) : Type 0 where
  pub at : l.at ≡ to
  pub says : IsTrue (says_something l)
  pub shown : IsShown p.triggers base s l

-- the next listing, if there is one, is of a later instant
abbrev pub IsLater : ℕ → Option Listed → Type 0
IsLater to None = Unit {0}
IsLater to (Some l) = to < l.at
