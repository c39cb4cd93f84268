-- Traces: the nonempty sets of a run, each with its instant and its base, and the model that they
-- stand for.
use Rattle.std.specs.Prelude.{◌≡◌, ℕ, ◌<◌, ◌≤◌, Bool, true, ◌||◌, nat_eq, List, [], ◌∷◌, if◌then◌else◌}
use Rattle.gt_base.specs.Happening.{HappenedView, nothing}
use Rattle.gt_base.specs.Sets.{members}
use Rattle.gtrbac_model.specs.Base.{when}
use Rattle.gtrbac_model.specs.History.{is_some_item}
use Rattle.instant_bases.specs.Timelines.{ClosedSet}

-- the set of each instant: nothing where the trace has none
abbrev pub model_of : List ClosedSet → ℕ → HappenedView
model_of [] t = nothing
model_of (c ∷ cs) t = if nat_eq c.at t then c.set else model_of cs t

-- the instants rise
abbrev pub Ascends : ℕ → List ClosedSet → Type 0
Ascends low [] = Unit {0}
Ascends low (c ∷ cs) = (low < c.at) × Ascends c.at cs

-- no set is later than this instant
abbrev pub AreClosedBy : ℕ → List ClosedSet → Type 0
AreClosedBy top [] = Unit {0}
AreClosedBy top (c ∷ cs) = (c.at ≤ top) × AreClosedBy top cs

-- whether something happens
abbrev pub is_something : HappenedView → Bool
is_something x = is_some_item (members x.events) || is_some_item (members x.signals)

-- something happens in each set
abbrev pub AreSome : List ClosedSet → Type 0
AreSome [] = Unit {0}
AreSome (c ∷ cs) = (is_something c.set ≡ true) × AreSome cs

-- a set is traced where something happens
abbrev pub traced : ℕ → HappenedView → HappenedView → List ClosedSet
traced at base set = when (is_something set) (record { at = at; base = base; set = set })
