-- Certificates: what is said to happen at each instant of a history, in an order that shows why.
use Rattle.std.specs.Prelude.{◌≡◌, ℕ, ◌-◌, ◌<◌, ◌≤◌, Bool, ◌||◌, nat_eq, List, [], ◌∷◌, Option, Some, None, IsTrue, All, if◌then◌else◌}
use Rattle.gt_base.specs.Held.{TriggerView}
use Rattle.gt_base.specs.Happening.{HappenedView, nothing}
use Rattle.gt_base.specs.Sets.{set_of}
use Rattle.gt_base.specs.declared.events.Prioritised.{Prioritised}
use Rattle.gt_base.specs.declared.events.Signal.{Signal}
use Rattle.gt_base.specs.declared.requests.Entry.{Entry}
use Rattle.gtrbac_model.specs.Policy.{Policy}
use Rattle.gtrbac_model.specs.Conflict.{Status}
use Rattle.gtrbac_model.specs.Instant.{closed, grounded_after}
use Rattle.gtrbac_model.specs.Status.{Model}
use Rattle.gtrbac_model.specs.Base.{status, base_at}
use Rattle.gtrbac_model.specs.History.{Legal, is_some_item, now_of}

-- one instant: its events in an order that is to support them, and its signals
pub record Listed : Type 0 where
  pub at : ℕ
  pub events : List Prioritised
  pub signals : List Signal

-- the same as a set
abbrev pub set_in : Listed → HappenedView
set_in l = record { events = set_of l.events; signals = set_of l.signals }

-- it has an event or a signal
abbrev pub says_something : Listed → Bool
says_something l = is_some_item l.events || is_some_item l.signals

-- what the certificate lists at an instant
abbrev pub listed_at : List Listed → ℕ → Option Listed
listed_at [] t = None
listed_at (l ∷ ls) t = if nat_eq l.at t then Some l else listed_at ls t

-- the certificate as a model: nothing at an instant that it does not list
abbrev pub set_at : Option Listed → HappenedView
set_at None = nothing
set_at (Some l) = set_in l

abbrev pub model_in : List Listed → Model
model_in cert t = set_at (listed_at cert t)

-- the instants ascend, after the first and up to the last
abbrev pub ListedAscend : ℕ → ℕ → List Listed → Type 0
ListedAscend first last [] = Unit {0}
ListedAscend first last (l ∷ ls) = (first < l.at) × (l.at ≤ last) × ListedAscend l.at last ls

-- the set is closed over the base, its signals are those of the base, and its order supports it
pub record IsShown (rules : List TriggerView) (base : HappenedView) (s : Status)
    (l : Listed) : Type 0 where
  pub is_closed : IsTrue (closed rules base s (set_in l))
  pub signals : (set_in l).signals ≡ base.signals
  pub order : IsTrue (grounded_after rules base s (set_in l) [] l.events)

-- an instant that is not listed has an empty base
abbrev pub IsRight : List TriggerView → HappenedView → Status → Option Listed → Type 0
IsRight rules base s None = base ≡ nothing
IsRight rules base s (Some l) = IsShown rules base s l

-- the certificate is one of the history: each minute is right over its base and the status that the
-- sets before it make
pub record Accepts (p : Policy) (birth : ℕ) (h : List Entry) (cert : List Listed) : Type 0 where
  pub ascends : ListedAscend birth (now_of birth h) cert
  pub some : All (λ l. IsTrue (says_something l)) cert
  pub minutes : (t : ℕ) → birth < t → t ≤ now_of birth h
      → IsRight p.triggers (base_at p birth (model_in cert) h t)
      (status p birth (model_in cert) (t - 1)) (listed_at cert t)

-- some model makes the history legal
pub record IsLegal (p : Policy) (birth : ℕ) (h : List Entry) : Type 0 where
  pub model : Model
  pub legal : Legal p birth h model
