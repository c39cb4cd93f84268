-- What an accepted certificate says.
use Rattle.std.specs.Prelude.{◌≡◌, ℕ, ◌<◌, ◌≤◌, List, Some, IsTrue}
use Rattle.gt_base.specs.Happening.{HappenedView}
use Rattle.gt_base.specs.Sets.{has}
use Rattle.gt_base.specs.declared.events.Prioritised.{Prioritised}
use Rattle.gt_base.specs.declared.requests.Entry.{Entry}
use Rattle.gtrbac_model.specs.Policy.{Policy}
use Rattle.gtrbac_model.specs.Conflict.{blocked}
use Rattle.gtrbac_model.specs.History.{IsExecutionModel, now_of}
use Rattle.gtrbac_model.specs.Safety.{IsSafe}
use Rattle.gtrbac_model.specs.Status.{Model}
use Rattle.gtrbac_model.specs.Theorems.{SameUpTo}
use Rattle.gtrbac_model.specs.WholePolicy.{IsPolicy}
use Rattle.why_check.specs.Certificates.{Listed, Accepts, listed_at, model_in, set_in}

-- a certificate of a history is an execution model of it
abbrev pub AcceptedIsModel : Type 0
AcceptedIsModel = (p : Policy) → IsPolicy p → (birth : ℕ) (h : List Entry) (cert : List Listed)
    → Accepts p birth h cert → IsExecutionModel p birth h (model_in cert)

-- so, where the triggers are safe, it has at each instant the set of whichever execution model, and
-- the empty set elsewhere
abbrev pub AcceptedIsTheModel : Type 0
AcceptedIsTheModel =
    (p : Policy) → IsPolicy p → IsSafe p.triggers
    → (birth : ℕ) (h : List Entry) (cert : List Listed) (m : Model)
    → Accepts p birth h cert → IsExecutionModel p birth h m
    → SameUpTo birth (now_of birth h) (model_in cert) m

-- an event that is listed is in the set, and blocked in the set where it is blocked among those
-- listed
pub record ListsTruly (x : HappenedView) (l : Listed) (e : Prioritised) : Type 0 where
  pub there : IsTrue (has (set_in l).events e) → IsTrue (has x.events e)
  pub blocked_there : IsTrue (blocked (set_in l) e) → IsTrue (blocked x e)

abbrev pub AcceptedTells : Type 0
AcceptedTells =
    (p : Policy) → IsPolicy p → IsSafe p.triggers
    → (birth : ℕ) (h : List Entry) (cert : List Listed) (m : Model)
    → Accepts p birth h cert → IsExecutionModel p birth h m
    → (t : ℕ) → birth < t → t ≤ now_of birth h → (l : Listed) → listed_at cert t ≡ Some l
    → (e : Prioritised) → ListsTruly (m t) l e
