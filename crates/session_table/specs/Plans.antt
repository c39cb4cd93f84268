-- The end of a stretch of minutes, planned before it is made.
use Rattle.std.specs.Prelude.{◌≡◌, ℕ, ◌<◌, ◌≤◌, Bool, true, false, List, length, map, filter, Some, is_none}
use Rattle.gt_base.specs.declared.events.Signal.{Signal}
use Rattle.gt_base.specs.declared.events.Fluent.TheVariants.{Enabled}
use Rattle.gt_base.specs.declared.policies.Caps.{Caps}
use Rattle.gt_base.specs.declared.policies.HierEdge.{HierEdge}
use Rattle.gtrbac_model.specs.Conflict.{Status}
use Rattle.gtrbac_model.specs.Graph.{item_at}
use Rattle.gtrbac_model.specs.Hierarchy.{activation_walk}
use Rattle.gtrbac_model.specs.Sessions.{Table, Activation, signal_of}
use Rattle.session_table.specs.Tables.{TableView, table_of, NotBefore, dropped_at, closed_at}

-- the minutes after one instant, to another, the activations that are dropped at `to`, and their
-- end signals
pub record DropsView : Type 0 where
  pub after : ℕ
  pub to : ℕ
  pub gone : List Activation
  pub signals : List Signal

-- what the close of `to` drops under these edges and caps, in this status
pub record IsDropPlan (edges : List HierEdge) (caps : List Caps) (s : Status) (now to : ℕ)
    (tb : Table)
    (d : DropsView) : Type 0 where
  pub from : d.after ≡ now
  pub upto : d.to ≡ to
  pub gone : d.gone ≡ dropped_at edges caps s now to tb
  pub signals : d.signals ≡ map (signal_of false) d.gone

-- the activation's role is on in the status, and a usable walk lets its user activate it
pub record Stands (edges : List HierEdge) (s : Status) (a : Activation) : Type 0 where
  pub on : s (Enabled a.role) ≡ true
  pub allowed : is_none (activation_walk edges s a.user a.role) ≡ false

-- so it is of each activation
abbrev pub AllStand : List HierEdge → Status → Table → Type 0
AllStand edges s tb = (i : ℕ) (a : Activation) → item_at tb.active i ≡ Some a → Stands edges s a

-- the plan is so, for whichever edges and status let each activation stand
abbrev pub IsPlanWhereAllStand : List Caps → ℕ → ℕ → Table → DropsView → Type 0
IsPlanWhereAllStand caps now to tb d =
    (edges : List HierEdge) (s : Status) → AllStand edges s tb → IsDropPlan edges caps s now to tb d

-- for so many activations the minutes are charged
abbrev pub need_of : ℕ → ℕ → TableView → ℕ
need_of now to v = length v.active

-- the drops are of activations of the table now, which is charged no further than the instant
-- before the minutes, and there is room for the charges
pub record IsPlanned (v : TableView) (d : DropsView) : Type 0 where
  pub test : Activation → Bool
  pub gone : d.gone ≡ filter test v.active
  pub order : d.after < d.to
  pub not_before : NotBefore v.charged_to d.after
  pub room : need_of d.after d.to v ≤ v.room

-- after the commit the table is the closed one, for whichever edges, caps and status the drops are
-- what the close drops
abbrev pub ClosesTable : TableView → DropsView → TableView → Type 0
ClosesTable before d after =
    (edges : List HierEdge) (caps : List Caps) (s : Status)
    → d.gone ≡ dropped_at edges caps s d.after d.to (table_of before)
    → record (table_of after) { signals = map (signal_of false) d.gone }
    ≡ closed_at edges caps s d.after d.to (table_of before)
