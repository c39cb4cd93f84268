-- What follows for quiet minutes from what every policy keeps.
use Rattle.std.specs.Prelude.{◌≡◌, ℕ, ◌-◌, ◌<◌, ◌≤◌, List, ◌∷◌, ◌++◌}
use Rattle.gt_base.specs.Held.{TriggerView}
use Rattle.gt_base.specs.Happening.{HappenedView, nothing}
use Rattle.gt_base.specs.Machines.{ticked}
use Rattle.gt_base.specs.declared.events.Fluent.{Fluent}
use Rattle.gt_base.specs.declared.requests.Who.{Who}
use Rattle.gt_base.specs.declared.requests.Entry.{Entry}
use Rattle.gtrbac_model.specs.Policy.{Policy}
use Rattle.gtrbac_model.specs.Conflict.{Status, after}
use Rattle.gtrbac_model.specs.Instant.{Settled}
use Rattle.gtrbac_model.specs.Status.{Model, since}
use Rattle.gtrbac_model.specs.Base.{status, base_at}
use Rattle.gtrbac_model.specs.History.{Legal, IsExecutionModel, now_of}
use Rattle.gtrbac_model.specs.WholePolicy.{IsPolicy}

-- over an empty base only the empty set is settled, and it leaves the status
pub record SettlesNothing (rules : List TriggerView) (s : Status) : Type 0 where
  pub settled : Settled rules nothing s nothing
  pub only : (x : HappenedView) → Settled rules nothing s x → x ≡ nothing
  pub stays : after nothing s ≡ s

abbrev pub QuietSettles : Type 0
QuietSettles = (p : Policy) → IsPolicy p → (s : Status) → SettlesNothing p.triggers s

-- nothing happens at t, and no fluent changes
pub record IsQuiet (p : Policy) (birth : ℕ) (m : Model) (t : ℕ) : Type 0 where
  pub empty : m t ≡ nothing
  pub status_stays : status p birth m t ≡ status p birth m (t - 1)
  pub since_stays : (f : Fluent) → since p birth m f t ≡ since p birth m f (t - 1)

-- an instant of a history with an empty base is quiet
abbrev pub EmptyIsQuiet : Type 0
EmptyIsQuiet =
    (p : Policy) → IsPolicy p → (birth : ℕ) (h : List Entry) (m : Model)
    → IsExecutionModel p birth h m
    → (t : ℕ) → birth < t → t ≤ now_of birth h → base_at p birth m h t ≡ nothing
    → IsQuiet p birth m t

-- the minutes that a tick of a legal history passes over are quiet
abbrev pub PassedAreQuiet : Type 0
PassedAreQuiet =
    (p : Policy) → IsPolicy p → (birth : ℕ) (g rest : List Entry) (m : Model) (who : Who)
    (upto to : ℕ) → Legal p birth (g ++ ticked who upto to ∷ rest) m
    → (t : ℕ) → now_of birth g < t → t < to → IsQuiet p birth m t
