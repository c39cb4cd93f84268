-- What a replay has come to is what the model says.
use Rattle.std.proofs.Common.{◌≡◌, ℕ, ◌<◌, ◌≤◌, List, length, IsTrue, ◌-◌, All}
use Rattle.std.specs.List.{list_any}
use Rattle.std.specs.Ordering.{eq_by_cmp}
use Rattle.gt_base.specs.Orders.{prioritised_cmp}
use Rattle.gt_base.specs.Sets.{has}
use Rattle.gt_base.specs.declared.events.Fluent.{Fluent}
use Rattle.gt_base.specs.declared.events.Prioritised.{Prioritised}
use Rattle.gt_base.specs.declared.requests.Entry.{Entry}
use Rattle.gt_base.specs.declared.limits.TheConstants.{LAST_MINUTE}
use Rattle.gtrbac_model.specs.Policy.{Policy}
use Rattle.gtrbac_model.specs.Base.{status, table_at, base_at}
use Rattle.gtrbac_model.specs.History.{now_of}
use Rattle.gtrbac_model.specs.Status.{Model, since}
use Rattle.history_laws.specs.Pending.{pending}
use Rattle.duration_limits.specs.Since.{since_in}
use Rattle.session_table.specs.Tables.{NotBefore}
use Rattle.why_check.specs.Certificates.{Listed, says_something, listed_at, ListedAscend, IsRight}
use Rattle.why_check.specs.declared.replays.Replay.{Replay}
use Rattle.why_check.specs.Kept.{due_in, table_in}

-- what the state says is what the model says at the now of these entries
pub record IsReplay (p : Policy) (birth : ℕ) (g : List Entry) (m : Model)
    (s : Replay) : Type 0 where
  pub now : s.present ≡ now_of birth g
  pub born : s.ages.birth ≡ birth
  pub status : (f : Fluent) → has s.status.set f ≡ status p birth m s.present f
  pub since : (f : Fluent) → since_in s.ages f ≡ since p birth m f s.present
  pub due : (t : ℕ) (e : Prioritised) → s.present < t → t ≤ LAST_MINUTE
      → list_any (eq_by_cmp prioritised_cmp e) (due_in s t)
      ≡ list_any (eq_by_cmp prioritised_cmp e) (pending p birth m g t)
  pub table : table_in s ≡ table_at p birth m g s.present
  pub charged : NotBefore s.table.charged_to s.present
  pub few : s.table.begun ≤ length g

-- the front of a certificate is right up to the now of these entries, and the state is that of the
-- model there
pub record HasReached (p : Policy) (birth : ℕ) (h : List Entry) (m : Model) (g : List Entry)
    (front : List Listed) (s : Replay) : Type 0 where
  pub replay : IsReplay p birth g m s
  pub born : birth ≤ now_of birth g
  pub ascends : ListedAscend birth (now_of birth g) front
  pub some : All (λ l. IsTrue (says_something l)) front
  pub right : (t : ℕ) → birth < t → t ≤ now_of birth g
      → IsRight p.triggers (base_at p birth m h t) (status p birth m (t - 1)) (listed_at front t)
