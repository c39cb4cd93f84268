-- The table of sessions and the queue after each step, and after minutes that end no activation.
use Rattle.std.specs.Prelude.{◌≡◌, ℕ, suc, ◌+◌, ◌-◌, ◌*◌, ◌<◌, min, max, List, [], ◌∷◌, ◌++◌, count_by}
use Rattle.gt_base.specs.Machines.{asked, ticked}
use Rattle.gt_base.specs.declared.events.RoleId.{RoleId}
use Rattle.gt_base.specs.declared.events.UserId.{UserId}
use Rattle.gt_base.specs.declared.policies.HierEdge.{HierEdge}
use Rattle.gt_base.specs.declared.policies.Caps.{Caps}
use Rattle.gt_base.specs.declared.requests.Who.{Who}
use Rattle.gt_base.specs.declared.requests.Actor.{Actor}
use Rattle.gt_base.specs.declared.requests.Request.{Request}
use Rattle.gt_base.specs.declared.requests.Reply.{Reply}
use Rattle.gt_base.specs.declared.requests.Entry.{Entry}
use Rattle.gtrbac_model.specs.Policy.{Policy}
use Rattle.gtrbac_model.specs.Conflict.{Status}
use Rattle.gtrbac_model.specs.Status.{Model}
use Rattle.gtrbac_model.specs.Sessions.{Table, applied, close_minutes, drops, is_of}
use Rattle.gtrbac_model.specs.Base.{status, table_at, requested, queued_at}
use Rattle.gtrbac_model.specs.History.{Legal, now_of}

-- after a tick the table is that of its now, closed minute by minute; after a request it is what
-- the reply makes of it
pub record TablesGoOn (p : Policy) (birth : ℕ) (h : List Entry) (m : Model) : Type 0 where
  pub ticks : (who : Who) (upto to : ℕ) → Legal p birth (h ++ ticked who upto to ∷ []) m
      → table_at p birth m (h ++ ticked who upto to ∷ []) to
      ≡ close_minutes p.edges p.caps (status p birth m) (now_of birth h) (to - now_of birth h)
      (table_at p birth m h (now_of birth h))
  pub asks : (who : Who) (actor : Actor) (request : Request) (reply : Reply)
      → Legal p birth (h ++ asked who actor request reply ∷ []) m
      → table_at p birth m (h ++ asked who actor request reply ∷ []) (now_of birth h)
      ≡ applied (now_of birth h) actor request reply (table_at p birth m h (now_of birth h))

-- a tick queues nothing, and a request queues what its reply says
pub record QueueGoesOn (h : List Entry) (t : ℕ) : Type 0 where
  pub ticks : (who : Who) (upto to : ℕ) → requested (h ++ ticked who upto to ∷ []) t ≡ requested h t
  pub asks : (who : Who) (actor : Actor) (request : Request) (reply : Reply)
      → requested (h ++ asked who actor request reply ∷ []) t ≡ requested h t
      ++ queued_at t request reply

-- how many of the k minutes after `from` are of civil day d, which has the minutes from 1440 d on
abbrev pub minutes_of_day : ℕ → ℕ → ℕ → ℕ
minutes_of_day from k d = min (from + k + 1) (1440 * d + 1440) - max (from + 1) (1440 * d)

-- each of the k minutes after `from` ends no activation
abbrev pub EndNothing : List HierEdge → List Caps → (ℕ → Status) → ℕ → ℕ → Table → Type 0
EndNothing edges caps s from k tb = (j : ℕ) → j < k
    → drops edges caps (s (from + suc j)) (from + suc j) (close_minutes edges caps s from j tb) ≡ []

-- then their closes leave the sessions and activations, and charge each activation its minutes, day
-- by day
pub record ChargedOnly (from k : ℕ) (tb tb' : Table) : Type 0 where
  pub sessions : tb'.sessions ≡ tb.sessions
  pub active : tb'.active ≡ tb.active
  pub begun : tb'.begun ≡ tb.begun
  pub signals : 0 < k → tb'.signals ≡ []
  pub charged : (u : UserId) (r : RoleId) (d : ℕ)
      → tb'.charged u r d ≡ tb.charged u r d + minutes_of_day from k d * count_by
      (is_of u r) tb.active

abbrev pub QuietCloses : Type 0
QuietCloses =
    (edges : List HierEdge) (caps : List Caps) (s : ℕ → Status) (from k : ℕ) (tb : Table)
    → EndNothing edges caps s from k tb
    → ChargedOnly from k tb (close_minutes edges caps s from k tb)
