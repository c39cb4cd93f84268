-- What lies ahead of a history, if no request comes any more, and when a fluent first changes
-- there.
use Rattle.std.specs.Prelude.{◌≡◌, ◌≢◌, ℕ, ◌<◌, ◌≤◌, List, [], ◌∷◌, ◌++◌, Option, Some, None}
use Rattle.gt_base.specs.Machines.{ticked}
use Rattle.gt_base.specs.declared.events.Fluent.{Fluent}
use Rattle.gt_base.specs.declared.requests.Who.{Who}
use Rattle.gt_base.specs.declared.requests.Entry.{Entry}
use Rattle.gtrbac_model.specs.Policy.{Policy}
use Rattle.gtrbac_model.specs.Safety.{IsSafe}
use Rattle.gtrbac_model.specs.Status.{Model, status_at}
use Rattle.gtrbac_model.specs.History.{IsExecutionModel, now_of}
use Rattle.gtrbac_model.specs.Theorems.{SameUpTo}
use Rattle.forecast.specs.declared.changes.Change.{Change}

-- who makes the tick to the horizon plays no part
abbrev pub nobody_asks : Who
nobody_asks = record { worker = 0; conn = 0 }

-- the history followed by one tick to the horizon
abbrev pub to_horizon : List Entry → ℕ → List Entry
to_horizon h upto = h ++ ticked nobody_asks upto upto ∷ []

-- the sets of what lies ahead: each minute after the birth, up to the horizon, has one that is
-- settled over its base, where requests, the sessions and their signals are read from the history
-- and its one tick
abbrev pub IsAhead : Policy → ℕ → List Entry → ℕ → Model → Type 0
IsAhead p birth h upto m = IsExecutionModel p birth (to_horizon h upto) m

-- there are such sets, and at each minute up to the horizon no others
pub record HasOneAhead (p : Policy) (birth : ℕ) (h : List Entry) (upto : ℕ) : Type 0 where
  pub model : Model
  pub ahead : IsAhead p birth h upto model
  pub only : (n : Model) → IsAhead p birth h upto n → SameUpTo birth upto n model

-- the least instant after now and up to the horizon at which the fluent is not as at now, and
-- whether it is on there
pub record IsChange (p : Policy) (birth : ℕ) (m : Model) (f : Fluent) (now upto : ℕ)
    (c : Change) : Type 0 where
  pub later : now < c.at
  pub within : c.at ≤ upto
  pub differs : status_at p birth m c.at f ≢ status_at p birth m now f
  pub on : c.on ≡ status_at p birth m c.at f
  pub least : (t : ℕ) → now < t → t < c.at → status_at p birth m t f ≡ status_at p birth m now f

-- the fluent stays as at now up to the horizon
abbrev pub Stays : Policy → ℕ → Model → Fluent → ℕ → ℕ → Type 0
Stays p birth m f now upto =
    (t : ℕ) → now < t → t ≤ upto → status_at p birth m t f ≡ status_at p birth m now f

abbrev pub IsFirstIn : Policy → ℕ → Model → Fluent → ℕ → ℕ → Option Change → Type 0
IsFirstIn p birth m f now upto (Some c) = IsChange p birth m f now upto c
IsFirstIn p birth m f now upto None = Stays p birth m f now upto

-- the first change of the fluent in what lies ahead, none where there is none
pub record IsFirstChange (p : Policy) (birth : ℕ) (h : List Entry) (f : Fluent) (upto : ℕ)
    (change : Option Change) : Type 0 where
  pub model : Model
  pub ahead : IsAhead p birth h upto model
  pub first : IsFirstIn p birth model f (now_of birth h) upto change

-- of a safe policy just one run lies ahead of each list of entries
abbrev pub AheadIsOne : Type 0
AheadIsOne =
    (p : Policy) → IsSafe p.triggers → (birth : ℕ) (h : List Entry) (upto : ℕ)
    → HasOneAhead p birth h upto

-- and so each fluent has just one first change there
abbrev pub ChangeIsOne : Type 0
ChangeIsOne =
    (p : Policy) → IsSafe p.triggers → (birth : ℕ) (h : List Entry) (f : Fluent) (upto : ℕ)
    (a b : Option Change)
    → IsFirstChange p birth h f upto a → IsFirstChange p birth h f upto b → a ≡ b
