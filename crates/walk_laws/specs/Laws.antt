-- What is proved of walks and closed walks.
use Rattle.std.specs.Prelude.{◌≡◌, ◌↔◌, ℕ, Bool, true, List, MatchOption}
use Rattle.gtrbac_model.specs.Graph.{Arc, Path, least_walk, IsWalk, IsLeastWalk}
use Rattle.gt_base.specs.Held.{TriggerView}
use Rattle.gt_base.specs.declared.events.Event.{Event}
use Rattle.gt_base.specs.declared.requests.Entry.{Entry}
use Rattle.gtrbac_model.specs.Policy.{Policy}
use Rattle.gtrbac_model.specs.Status.{Model}
use Rattle.gtrbac_model.specs.History.{IsExecutionModel}
use Rattle.gtrbac_model.specs.Theorems.{HasOneModel, IsOnlyModel}
use Rattle.gtrbac_model.specs.Safety.{dependencies, arcs_of, IsSafe, IsLevelling, the_cycle}
use Rattle.gtrbac_model.specs.Cycles.{is_conflict, IsLeastCycle, HasNoCycle, AreLevels}

-- the test answers true just of equal nodes
abbrev pub TellsApart : {N : Type 0} → (N → N → Bool) → Type 0
TellsApart {N} same = ((a b : N) → same a b ≡ true → a ≡ b) × ((a b : N) → a ≡ b → same a b ≡ true)

-- at most one walk is the least
abbrev pub OneLeastWalk : Type 0 → Type 0
OneLeastWalk N = (arcs : List (Arc N)) (goal : N → Bool) (starts : List N) (p q : Path N)
    → IsLeastWalk arcs goal starts p → IsLeastWalk arcs goal starts q → p ≡ q

-- at most one closed walk with a marked arc is the least
abbrev pub OneLeastCycle : Type 0 → Type 0
OneLeastCycle N = (arcs : List (Arc N)) (marked : ℕ → Bool) (p q : List ℕ)
    → IsLeastCycle arcs marked p → IsLeastCycle arcs marked q → p ≡ q

-- levels leave no closed walk with a marked arc
abbrev pub LevelsLeaveNoCycle : Type 0 → Type 0
LevelsLeaveNoCycle N = (arcs : List (Arc N)) (marked : ℕ → Bool) (level : N → ℕ)
    → AreLevels arcs marked level → HasNoCycle arcs marked

-- no walk leads from one of the starts to a goal
abbrev pub HasNoWalk : {N : Type 0} → List (Arc N) → (N → Bool) → List N → Type 0
HasNoWalk {N} arcs goal starts = (place : ℕ) (p : Path N) → IsWalk arcs goal starts place p → ⊥

-- the walk that is computed is the least, and none is computed just where there is none
abbrev pub LeastWalkIsLeast : (N : Type 0) → (N → N → Bool) → Type 0
LeastWalkIsLeast N same =
    (arcs : List (Arc N)) (goal : N → Bool) (starts : List N)
    → MatchOption (least_walk same arcs goal starts) (HasNoWalk arcs goal starts)
    (IsLeastWalk arcs goal starts)

-- the cycle that is computed is the least with a conflict, and none is computed just where the
-- triggers are safe
abbrev pub CycleIsLeast : Type 0
CycleIsLeast =
    (triggers : List TriggerView) → MatchOption (the_cycle triggers) (IsSafe triggers)
    (IsLeastCycle (arcs_of (dependencies triggers)) (is_conflict (dependencies triggers)))

-- safe is that no closed walk has a conflict
abbrev pub SafeHasNoCycle : Type 0
SafeHasNoCycle = (triggers : List TriggerView)
    → IsSafe triggers ↔ HasNoCycle (arcs_of (dependencies triggers))
    (is_conflict (dependencies triggers))

-- safe triggers have levels
abbrev pub SafeIsLevelled : Type 0
SafeIsLevelled = (triggers : List TriggerView) → IsSafe triggers
    → (level : Event → ℕ) × IsLevelling triggers level

-- a policy with safe triggers has just one history and model for each birth and each list of moves
abbrev pub SafeHasOneModel : Type 0
SafeHasOneModel = (p : Policy) → IsSafe p.triggers → HasOneModel p

-- and each history at most one model
abbrev pub SafeHasOnlyModel : Type 0
SafeHasOnlyModel = (p : Policy) → IsSafe p.triggers → (birth : ℕ) (h : List Entry) (m : Model)
    → IsExecutionModel p birth h m → IsOnlyModel p birth h m
