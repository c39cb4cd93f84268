-- What a table of sessions is seen as, and what it stands for.
use Rattle.std.specs.Prelude.{◌≡◌, ℕ, ◌+◌, ◌-◌, ◌*◌, ◌≤◌, Bool, false, ◌||◌, not, List, [], map, filter, count_by, Option, Some, None}
use Rattle.gt_base.specs.declared.events.RoleId.{RoleId}
use Rattle.gt_base.specs.declared.events.UserId.{UserId}
use Rattle.gt_base.specs.declared.policies.Caps.{Caps}
use Rattle.gt_base.specs.declared.policies.HierEdge.{HierEdge}
use Rattle.gtrbac_model.specs.Calendar.{day_of}
use Rattle.gtrbac_model.specs.Conflict.{Status}
use Rattle.gtrbac_model.specs.Sessions.{Table, OpenedSession, Activation, caps_of, reached, is_of, is_dropped, signal_of}
use Rattle.history_laws.specs.Tables.{minutes_of_day}
use Rattle.session_table.specs.Charges.{Charged, charged_in}

-- the open sessions in the order of their numbers, the activations in the order in which they were
-- made, the charged minutes, the number of sessions begun, the instant up to which minutes were
-- charged, if any were, and for how many activations minutes can be charged
pub record TableView : Type 0 where
  pub sessions : List OpenedSession
  pub active : List Activation
  pub charges : Charged
  pub begun : ℕ
  pub charged_to : Option ℕ
  pub room : ℕ

-- the table that it stands for, no signals told
abbrev pub table_of : TableView → Table
table_of v =
    record {
      sessions = v.sessions;
      active = v.active;
      charged = charged_in v.charges;
      begun = v.begun;
      signals = [];
    }

-- the instant is not before the one up to which minutes were charged
abbrev pub NotBefore : Option ℕ → ℕ → Type 0
NotBefore None t = Unit {0}
NotBefore (Some u) t = u ≤ t

-- each minute after now, to `to`, is charged to each activation
abbrev pub charged_through : ℕ → ℕ → Table → Table
charged_through now to tb =
    record tb {
      charged =
          λ u r d. tb.charged u r d + minutes_of_day now (to - now) d * count_by (is_of u r)
          tb.active;
    }

-- the activations that the close of `to` drops in this status, where the minutes after now are
-- charged
abbrev pub dropped_at : List HierEdge → List Caps → Status → ℕ → ℕ → Table → List Activation
dropped_at edges caps s now to tb =
    filter (is_dropped edges caps s to (charged_through now to tb)) tb.active

-- the table after the close of `to`, at which alone activations are dropped; each drop leaves an
-- end signal
abbrev pub closed_at : List HierEdge → List Caps → Status → ℕ → ℕ → Table → Table
closed_at edges caps s now to tb =
    let all = charged_through now to tb in
    record all {
      active = filter (λ a. not (is_dropped edges caps s to all a)) tb.active;
      signals = map (signal_of false) (dropped_at edges caps s now to tb);
    }

-- whether a cap ends the activation at the close of t, where each minute after now is charged to
-- each activation
abbrev pub is_capped : List Caps → ℕ → Table → ℕ → Activation → Bool
is_capped caps now tb t a =
    reached (caps_of caps a.role).length (t - a.begun) || reached (caps_of caps a.role).day
    ((charged_through now t tb).charged a.user a.role (day_of t))

-- the same table, but for what was charged on the civil days before this one
pub record ForgetsDays (day : ℕ) (old new : Table) : Type 0 where
  pub sessions : new.sessions ≡ old.sessions
  pub active : new.active ≡ old.active
  pub begun : new.begun ≡ old.begun
  pub charged : (u : UserId) (r : RoleId) (d : ℕ) → day ≤ d
      → new.charged u r d ≡ old.charged u r d
