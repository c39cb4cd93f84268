-- What the words of the table mean to those who hold sessions: what stands after a close, and that
-- caps hold.
use Rattle.std.specs.Prelude.{◌≡◌, ℕ, ◌-◌, ◌≤◌, true, false, List, count_by, Some, is_none}
use Rattle.gt_base.specs.declared.events.RoleId.{RoleId}
use Rattle.gt_base.specs.declared.events.UserId.{UserId}
use Rattle.gt_base.specs.declared.events.Fluent.TheVariants.{Enabled}
use Rattle.gt_base.specs.declared.policies.Caps.{Caps}
use Rattle.gt_base.specs.declared.policies.HierEdge.{HierEdge}
use Rattle.gt_base.specs.declared.requests.Actor.{Actor}
use Rattle.gt_base.specs.declared.requests.Request.{Request}
use Rattle.gtrbac_model.specs.Calendar.{day_of}
use Rattle.gtrbac_model.specs.Conflict.{Status}
use Rattle.gtrbac_model.specs.Graph.{item_at}
use Rattle.gtrbac_model.specs.Hierarchy.{activation_walk}
use Rattle.gtrbac_model.specs.Policy.{Policy}
use Rattle.gtrbac_model.specs.Reply.{Point, answer}
use Rattle.gtrbac_model.specs.Same.{same_role}
use Rattle.gtrbac_model.specs.Sessions.{Table, Activation, caps_of, reached, is_of, applied}
use Rattle.session_table.specs.Tables.{closed_at}

-- what a close leaves active: its role is on, a usable walk lets its user activate it, and neither
-- its own minutes nor those of its user and role on the day have reached their cap
pub record Stays (edges : List HierEdge) (caps : List Caps) (s : Status) (to : ℕ) (tb : Table)
    (a : Activation) : Type 0 where
  pub on : s (Enabled a.role) ≡ true
  pub allowed : is_none (activation_walk edges s a.user a.role) ≡ false
  pub young : reached (caps_of caps a.role).length (to - a.begun) ≡ false
  pub unspent : reached (caps_of caps a.role).day (tb.charged a.user a.role (day_of to)) ≡ false

abbrev pub CloseLeaves : Type 0
CloseLeaves =
    (edges : List HierEdge) (caps : List Caps) (s : Status) (now to : ℕ) (tb : Table) (i : ℕ)
    (a : Activation)
    → item_at (closed_at edges caps s now to tb).active i ≡ Some a
    → Stays edges caps s to (closed_at edges caps s now to tb) a

-- no role is active more often than its cap over all sessions allows, and for no user more often
-- than its cap for one user allows
pub record WithinCaps (caps : List Caps) (tb : Table) : Type 0 where
  pub total : (r : RoleId) (n : ℕ) → (caps_of caps r).total ≡ Some n
      → count_by (λ a. same_role a.role r) tb.active ≤ n
  pub user : (u : UserId) (r : RoleId) (n : ℕ) → (caps_of caps r).user ≡ Some n
      → count_by (is_of u r) tb.active ≤ n

-- whatever is asked and answered, and whenever minutes are closed, it stays so
pub record CapsHold (caps : List Caps) (tb : Table) : Type 0 where
  pub asked : (p : Policy) (pt : Point) (actor : Actor) (request : Request)
      → WithinCaps caps
      (applied pt.now actor request
      (answer (record p { caps = caps }) (record pt { table = tb }) actor request) tb)
  pub closed : (edges : List HierEdge) (s : Status) (now to : ℕ)
      → WithinCaps caps (closed_at edges caps s now to tb)

abbrev pub CapsStay : Type 0
CapsStay = (caps : List Caps) (tb : Table) → WithinCaps caps tb → CapsHold caps tb
