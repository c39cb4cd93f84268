-- Laws of sets, histories and refusals in the subject's own words.
use Rattle.std.specs.Prelude.{◌≡◌, ◌↔◌, ℕ, true, List, [], ◌∷◌, ◌++◌, IsTrue}
use Rattle.gt_base.specs.declared.events.Fluent.TheVariants.{Enabled}
use Rattle.gt_base.specs.declared.events.Prioritised.{Prioritised}
use Rattle.gt_base.specs.declared.requests.Who.{Who}
use Rattle.gt_base.specs.declared.requests.Actor.{Actor}
use Rattle.gt_base.specs.declared.requests.Request.{Request}
use Rattle.gt_base.specs.declared.requests.Refusal.{Refusal}
use Rattle.gt_base.specs.declared.requests.Reply.TheVariants.{Refused}
use Rattle.gt_base.specs.declared.requests.Entry.{Entry}
use Rattle.gt_base.specs.Events.{converse}
use Rattle.gt_base.specs.Happening.{HappenedView}
use Rattle.gt_base.specs.Machines.{asked}
use Rattle.gt_base.specs.Sets.{has, set_of, none}
use Rattle.gtrbac_model.specs.Policy.{Policy}
use Rattle.gtrbac_model.specs.Conflict.{beats, blocked}
use Rattle.gtrbac_model.specs.Safety.{IsSafe}
use Rattle.gtrbac_model.specs.Status.{Model}
use Rattle.gtrbac_model.specs.Base.{base_at, table_at, requested}
use Rattle.gtrbac_model.specs.History.{Legal, now_of}
use Rattle.gtrbac_model.specs.Theorems.{SameUpTo}

-- the first stands in the set, and is the second's converse at a priority that beats it; nothing is
-- asked of what blocks the first
pub record Blocks (x : HappenedView) (o e : Prioritised) : Type 0 where
  pub stands : IsTrue (has x.events o)
  pub against : o.event ≡ converse e.event
  pub stronger : IsTrue (beats e.event.on o.prio e.prio)

-- an event is blocked exactly where one that stands in the set blocks it
abbrev pub StandingBlocks : Type 0
StandingBlocks = (x : HappenedView) (e : Prioritised)
    → IsTrue (blocked x e) ↔ ((o : Prioritised) × Blocks x o e)

abbrev enable : ℕ → Prioritised
enable p = record { prio = p; event = record { on = true; fluent = Enabled (record { 0 = 0 }) } }

abbrev disable : ℕ → Prioritised
disable p = record { prio = p; event = converse (enable p).event }

abbrev pub three_deep : HappenedView
three_deep = record { events = set_of (enable 50 ∷ disable 60 ∷ enable 70 ∷ []); signals = none }

-- an event at 60 is blocked by one at 70, and blocks one at 50 still
pub record BlockedStillBlocks : Type 0 where
  pub is_blocked : IsTrue (blocked three_deep (disable 60))
  pub blocks : Blocks three_deep (disable 60) (enable 50)
  pub so_blocked : IsTrue (blocked three_deep (enable 50))

-- a history that goes on from another has its sets up to the other's now
abbrev pub LongerAgrees : Type 0
LongerAgrees =
    (p : Policy) → IsSafe p.triggers
    → (birth : ℕ) (h further : List Entry) (m n : Model) → Legal p birth h m
    → Legal p birth (h ++ further) n → SameUpTo birth (now_of birth h) m n

-- the two histories have the same tables, queues and bases at each instant, and the same now
pub record TellSame (p : Policy) (birth : ℕ) (m : Model) (h k : List Entry) : Type 0 where
  pub tables : (t : ℕ) → table_at p birth m h t ≡ table_at p birth m k t
  pub queues : (t : ℕ) → requested h t ≡ requested k t
  pub bases : (t : ℕ) → base_at p birth m h t ≡ base_at p birth m k t
  pub nows : now_of birth h ≡ now_of birth k

-- a refused request may as well be left out of a history
abbrev pub RefusedChangesNothing : Type 0
RefusedChangesNothing =
    (p : Policy) (birth : ℕ) (m : Model) (g h : List Entry) (who : Who) (actor : Actor)
    (request : Request) (why : Refusal)
    → TellSame p birth m (g ++ asked who actor request (Refused why) ∷ h) (g ++ h)

-- and the history stays legal without it
abbrev pub LegalWithoutRefused : Type 0
LegalWithoutRefused =
    (p : Policy) (birth : ℕ) (m : Model) (g h : List Entry) (who : Who) (actor : Actor)
    (request : Request) (why : Refusal)
    → Legal p birth (g ++ asked who actor request (Refused why) ∷ h) m → Legal p birth (g ++ h) m
