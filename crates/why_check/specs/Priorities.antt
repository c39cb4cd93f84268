-- The priorities of the sets of a history.
use Rattle.std.specs.Prelude.{◌≡◌, ℕ, ◌<◌, ◌≤◌, true, List}
use Rattle.gt_base.specs.Happening.{HappenedView}
use Rattle.gt_base.specs.Sets.{has}
use Rattle.gt_base.specs.declared.events.Prioritised.{Prioritised}
use Rattle.gt_base.specs.declared.requests.Entry.{Entry}
use Rattle.gt_base.specs.declared.limits.TheConstants.{MAX_PRIO}
use Rattle.gtrbac_model.specs.Policy.{Policy}
use Rattle.gtrbac_model.specs.Status.{Model}
use Rattle.gtrbac_model.specs.History.{Legal, now_of, point_after}
use Rattle.gtrbac_model.specs.WholePolicy.{IsPolicy}
use Rattle.history_laws.specs.Named.{AreNamed}

-- the priorities of the set are those that lines can say
abbrev pub HasPriorities : HappenedView → Type 0
HasPriorities x = (e : Prioritised) → has x.events e ≡ true → e.prio ≤ MAX_PRIO

-- so it is of each set of a history whose moves name only what the policy has
abbrev pub PrioritiesAreLow : Type 0
PrioritiesAreLow =
    (p : Policy) → IsPolicy p → (birth : ℕ) (h : List Entry) (m : Model) → AreNamed p h
    → Legal p birth h m → (t : ℕ) → birth < t → t ≤ now_of birth h → HasPriorities (m t)

-- and of the set that requests at its end are answered from
abbrev pub AnswersAreLow : Type 0
AnswersAreLow =
    (p : Policy) → IsPolicy p → (birth : ℕ) (h : List Entry) (m : Model) → AreNamed p h
    → Legal p birth h m → HasPriorities (point_after p birth m h).set
