-- The closes of a stretch of minutes, in the words of the table.
use Rattle.std.specs.Prelude.{◌≡◌, ℕ, ◌+◌, ◌-◌, ◌<◌, suc, true, false, List, Some, is_none}
use Rattle.gt_base.specs.declared.events.Fluent.TheVariants.{Enabled}
use Rattle.gtrbac_model.specs.Graph.{item_at}
use Rattle.gtrbac_model.specs.Hierarchy.{activation_walk}
use Rattle.session_table.specs.NextDrops.{is_any_capped}
use Rattle.gt_base.specs.declared.policies.Caps.{Caps}
use Rattle.gt_base.specs.declared.policies.HierEdge.{HierEdge}
use Rattle.gtrbac_model.specs.Conflict.{Status}
use Rattle.gtrbac_model.specs.Sessions.{Table, Activation, drops, close_minutes}
use Rattle.history_laws.specs.Tables.{EndNothing}
use Rattle.session_table.specs.Tables.{dropped_at, closed_at}

-- where the minutes before end no activation, the close of `to` drops what the table's words say,
-- and leaves their table
pub record StretchCloses (edges : List HierEdge) (caps : List Caps) (s : ℕ → Status) (now to : ℕ)
    (tb : Table) : Type 0 where
  pub drops : drops edges caps (s to) to (close_minutes edges caps s now (to - now - 1) tb)
      ≡ dropped_at edges caps (s to) now to tb
  pub closes : close_minutes edges caps s now (to - now) tb ≡ closed_at edges caps (s to) now to tb

abbrev pub StretchesClose : Type 0
StretchesClose =
    (edges : List HierEdge) (caps : List Caps) (s : ℕ → Status) (now to : ℕ) (tb : Table) → now < to
    → EndNothing edges caps s now (to - now - 1) tb → StretchCloses edges caps s now to tb

-- at t each activation's role is on, a usable walk lets its user activate it, and no cap is reached
pub record StandsFirm (edges : List HierEdge) (caps : List Caps) (s : ℕ → Status) (now : ℕ)
    (tb : Table) (t : ℕ) : Type 0 where
  pub on : (i : ℕ) (a : Activation) → item_at tb.active i ≡ Some a → s t (Enabled a.role) ≡ true
  pub allowed : (i : ℕ) (a : Activation) → item_at tb.active i ≡ Some a
      → is_none (activation_walk edges (s t) a.user a.role) ≡ false
  pub uncapped : is_any_capped caps now tb t ≡ false

-- minutes at which all stands firm end no activation
abbrev pub FirmEndsNothing : Type 0
FirmEndsNothing =
    (edges : List HierEdge) (caps : List Caps) (s : ℕ → Status) (now k : ℕ) (tb : Table)
    → ((j : ℕ) → j < k → StandsFirm edges caps s now tb (now + suc j))
    → EndNothing edges caps s now k tb
