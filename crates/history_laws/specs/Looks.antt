-- Requests that only look: they change nothing.
use Rattle.std.specs.Prelude.{◌≡◌, ℕ, Bool, true, false, List, [], ◌∷◌, ◌++◌, if◌then◌else◌}
use Rattle.gt_base.specs.declared.requests.Who.{Who}
use Rattle.gt_base.specs.declared.requests.Actor.{Actor}
use Rattle.gt_base.specs.declared.requests.Request.{Request}
use Rattle.gt_base.specs.declared.requests.Request.TheVariants.{Now, Status, Seen, Active, Check}
use Rattle.gt_base.specs.declared.requests.Reply.{Reply}
use Rattle.gt_base.specs.declared.requests.Step.{Step}
use Rattle.gt_base.specs.declared.requests.Step.TheVariants.{Tick, Ask}
use Rattle.gt_base.specs.declared.requests.Entry.{Entry}
use Rattle.gt_base.specs.Machines.{asked}
use Rattle.gtrbac_model.specs.Policy.{Policy}
use Rattle.gtrbac_model.specs.Status.{Model}
use Rattle.gtrbac_model.specs.History.{Legal, IsLegalStep}
use Rattle.history_laws.specs.Histories.{TellSame}

-- with and without the entry between these a history has the same tables, queues and bases at each
-- instant, and where it is legal with the entry it is legal without it; where it is legal without
-- the entry it is legal with it, if the entry is what its step must find there
pub record ChangesNothing (p : Policy) (birth : ℕ) (m : Model) (g : List Entry) (e : Entry)
    (h : List Entry) : Type 0 where
  pub same : TellSame p birth m (g ++ e ∷ h) (g ++ h)
  pub without : Legal p birth (g ++ e ∷ h) m → Legal p birth (g ++ h) m
  pub within : IsLegalStep p birth m g e.what → Legal p birth (g ++ h) m
      → Legal p birth (g ++ e ∷ h) m

-- the instant, a condition, an event of now, an active role, a permission
abbrev pub is_look : Request → Bool
is_look Now = true
is_look (Status cond) = true
is_look (Seen event) = true
is_look (Active session role) = true
is_look (Check session perm) = true
is_look _ = false

abbrev pub looks : Step → Bool
looks (Tick upto to) = false
looks (Ask actor request reply) = is_look request

-- the entries that do not only look
abbrev pub without_looks : List Entry → List Entry
without_looks [] = []
without_looks (e ∷ es) = if looks e.what then without_looks es else e ∷ without_looks es

-- a request that only looks changes nothing
abbrev pub LooksChangeNothing : Type 0
LooksChangeNothing =
    (p : Policy) (birth : ℕ) (m : Model) (g h : List Entry) (who : Who) (actor : Actor)
    (request : Request) (reply : Reply) → is_look request ≡ true
    → ChangesNothing p birth m g (asked who actor request reply) h

-- nor do all of them
abbrev pub LooksMayBeLeftOut : Type 0
LooksMayBeLeftOut =
    (p : Policy) (birth : ℕ) (m : Model) (h : List Entry) → TellSame p birth m h (without_looks h)
