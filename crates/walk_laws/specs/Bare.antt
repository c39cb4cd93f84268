-- Triggers without settled conditions, and edges of the hierarchy that are on: what holds of them
-- without a word on the status after the instant or on the fluents of edges.
use Rattle.std.specs.Prelude.{◌≡◌, ◌↔◌, ℕ, ◌+◌, ◌<◌, Bool, true, false, ◌&&◌, List, [], ◌∷◌, ◌++◌, length, map, All, if◌then◌else◌}
use Rattle.gt_base.specs.declared.events.RoleId.{RoleId}
use Rattle.gt_base.specs.declared.events.Fluent.TheVariants.{Enabled, Edge}
use Rattle.gt_base.specs.declared.policies.HierEdge.{HierEdge}
use Rattle.gt_base.specs.Held.{TriggerView}
use Rattle.gt_base.specs.Happening.{HappenedView}
use Rattle.gt_base.specs.Sets.{has}
use Rattle.gtrbac_model.specs.Conflict.{Status, won}
use Rattle.gtrbac_model.specs.Hierarchy.{usable, role_arcs}
use Rattle.gtrbac_model.specs.Safety.{Dependency, of_body, dependencies}
use Rattle.gtrbac_model.specs.Trigger.{met, immediate}

-- each body event stands in the set at a priority at which it is not blocked, each body signal is
-- in the set, and each condition holds in the status before
pub record IsBodyMet (r : TriggerView) (x : HappenedView) (s : Status) : Type 0 where
  pub events : All (λ b. won x b ≡ true) r.events
  pub signals : All (λ g. has x.signals g ≡ true) r.signals
  pub conds : All (λ c. s c.fluent ≡ c.on) r.conds

-- a trigger without settled conditions is met where these three are
abbrev pub BareIsMetByBody : Type 0
BareIsMetByBody = (r : TriggerView) (x : HappenedView) (s : Status) → r.settled ≡ []
    → (met r x s ≡ true) ↔ IsBodyMet r x s

-- trigger by trigger the dependencies on its body events, and none of a delayed trigger
abbrev pub of_bodies : List TriggerView → ℕ → List TriggerView → List Dependency
of_bodies triggers t [] = []
of_bodies triggers t (r ∷ rs) = (if immediate r then of_body triggers r.head.event t 0 r.events
    else []) ++ of_bodies triggers (t + 1) rs

-- without settled conditions there are no others
abbrev pub BareDependOnBodies : Type 0
BareDependOnBodies = (triggers : List TriggerView) → All (λ r. r.settled ≡ []) triggers
    → dependencies triggers ≡ of_bodies triggers 0 triggers

abbrev pub is_on : Status → RoleId → Type 0
is_on s r = s (Enabled r) ≡ true

-- an edge that is on lends permissions, where it is of that kind, while its senior is enabled and,
-- if it is strong, its junior too
abbrev pub LinkedLends : Type 0
LinkedLends = (s : Status) (n : ℕ) (e : HierEdge) → s (Edge n) ≡ true
    → (usable s true n e ≡ true) ↔ ((e.inherits ≡ true) × is_on s e.senior
    × (e.strong ≡ true → is_on s e.junior))

-- it allows activation, where it is of that kind, while its junior is enabled and, if it is strong,
-- its senior too
abbrev pub LinkedAllows : Type 0
LinkedAllows = (s : Status) (n : ℕ) (e : HierEdge) → s (Edge n) ≡ true
    → (usable s false n e ≡ true) ↔ ((e.activates ≡ true) × is_on s e.junior
    × (e.strong ≡ true → is_on s e.senior))

-- an edge that is off does neither
abbrev pub UnlinkedIsShut : Type 0
UnlinkedIsShut = (s : Status) (inherits : Bool) (n : ℕ) (e : HierEdge) → s (Edge n) ≡ false
    → usable s inherits n e ≡ false

-- by the kind of the edge and the roles that are on
abbrev pub open_by_roles : Status → Bool → HierEdge → Bool
open_by_roles s inherits e =
    (if inherits then e.inherits else e.activates)
    && (if e.strong then s (Enabled e.senior) && s (Enabled e.junior)
    else s (Enabled (if inherits then e.senior else e.junior)))

-- while all edges are on, the walks are those over arcs that are open by the roles alone
abbrev pub LinkedArcs : Type 0
LinkedArcs =
    (s : Status) (inherits : Bool) (edges : List HierEdge)
    → ((n : ℕ) → n < length edges → s (Edge n) ≡ true)
    → role_arcs (usable s inherits) edges
    ≡ map (λ e. record { from = e.senior; to = e.junior; is_open = open_by_roles s inherits e })
    edges
