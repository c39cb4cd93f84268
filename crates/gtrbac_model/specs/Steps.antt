-- The laws by which a machine goes from one legal history to the next.
use Rattle.std.specs.Prelude.{ℕ, ◌-◌, ◌<◌, ◌≤◌, List, [], ◌∷◌, ◌++◌}
use Rattle.gt_base.specs.Machines.{ticked, asked}
use Rattle.gt_base.specs.declared.requests.Who.{Who}
use Rattle.gt_base.specs.declared.requests.Actor.{Actor}
use Rattle.gt_base.specs.declared.requests.Request.{Request}
use Rattle.gt_base.specs.declared.requests.Entry.{Entry}
use Rattle.gtrbac_model.specs.Policy.{Policy}
use Rattle.gtrbac_model.specs.Instant.{Settled}
use Rattle.gtrbac_model.specs.Status.{Model}
use Rattle.gtrbac_model.specs.Base.{status, base_at}
use Rattle.gtrbac_model.specs.Reply.{reply_of}
use Rattle.gtrbac_model.specs.History.{Legal, IsNextStop, stirs, now_of, point_after}
use Rattle.gtrbac_model.specs.Theorems.{SameUpTo}

-- each minute after the history's now, up to this one, has a set that is settled over its base
abbrev pub SettledAfter : Policy → ℕ → List Entry → Model → ℕ → Type 0
SettledAfter p birth h m to =
    (t : ℕ) → now_of birth h < t → t ≤ to
    → Settled p.triggers (base_at p birth m h t) (status p birth m (t - 1)) (m t)

-- a tick to the next stop keeps a history legal, where the new model is the old one up to now and
-- settled from there to the stop
abbrev pub TickKeeps : Type 0
TickKeeps =
    (p : Policy) (birth : ℕ) (h : List Entry) (m n : Model) (who : Who) (upto to : ℕ)
    → Legal p birth h m → SameUpTo birth (now_of birth h) m n → SettledAfter p birth h n to
    → IsNextStop (stirs p birth n h) (now_of birth h) upto to
    → Legal p birth (h ++ ticked who upto to ∷ []) n

-- a request with the reply of the definitions keeps a history legal, and its model is the same
abbrev pub AskKeeps : Type 0
AskKeeps =
    (p : Policy) (birth : ℕ) (h : List Entry) (m : Model) (who : Who) (actor : Actor)
    (request : Request)
    → Legal p birth h m → Legal p birth
    (h ++ asked who actor request (reply_of p (point_after p birth m h) actor request) ∷ []) m
