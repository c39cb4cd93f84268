-- Histories of named moves, and what they turn on.
use Rattle.std.specs.Prelude.{ℕ, ◌<◌, ◌≤◌, List, [], ◌∷◌, ◌++◌, IsTrue}
use Rattle.gt_base.specs.declared.events.Fluent.{Fluent}
use Rattle.gt_base.specs.declared.requests.Step.{Step}
use Rattle.gt_base.specs.declared.requests.Step.TheVariants.{Tick, Ask}
use Rattle.gt_base.specs.declared.requests.Entry.{Entry}
use Rattle.gt_base.specs.declared.limits.TheConstants.{LAST_MINUTE}
use Rattle.gtrbac_model.specs.Policy.{Policy}
use Rattle.gtrbac_model.specs.Status.{Model}
use Rattle.gtrbac_model.specs.Base.{status}
use Rattle.gtrbac_model.specs.Sessions.{Activation}
use Rattle.gtrbac_model.specs.Reply.{Point}
use Rattle.gtrbac_model.specs.History.{Legal, now_of, point_after, IsNamedWish, tick, ask}
use Rattle.gtrbac_model.specs.WholePolicy.{IsPolicy, is_fluent}
use Rattle.history_laws.specs.Activations.{IsIn}

-- the numbers of a step are numbers of the policy, and within the limits
abbrev pub IsNamedStep : Policy → Step → Type 0
IsNamedStep p (Tick upto to) = IsNamedWish p (tick upto)
IsNamedStep p (Ask actor request reply) = IsNamedWish p (ask actor request)

abbrev pub AreNamed : Policy → List Entry → Type 0
AreNamed p [] = Unit {0}
AreNamed p (e ∷ h) = IsNamedStep p e.what × AreNamed p h

-- only fluents of the policy are ever on
abbrev pub OnlyNamedIsOn : Type 0
OnlyNamedIsOn =
    (p : Policy) (birth : ℕ) (h : List Entry) (m : Model) → IsPolicy p → AreNamed p h
    → Legal p birth h m
    → (t : ℕ) → birth ≤ t → t ≤ now_of birth h → (f : Fluent) → IsTrue (status p birth m t f)
    → IsTrue (is_fluent p f)

-- the instant is a minute, and what is on and what is active is of the policy
pub record IsNamedPoint (p : Policy) (pt : Point) : Type 0 where
  pub now : pt.now ≤ LAST_MINUTE
  pub on : (f : Fluent) → IsTrue (pt.status f) → IsTrue (is_fluent p f)
  pub active : (a : Activation) → IsIn pt.table.active a → a.role.0 < p.roles

-- so requests are answered from named points, after each of the entries and after all
abbrev pub PointsAreNamed : Type 0
PointsAreNamed =
    (p : Policy) (birth : ℕ) (front rest : List Entry) (m : Model) → IsPolicy p
    → birth ≤ LAST_MINUTE → AreNamed p (front ++ rest) → Legal p birth (front ++ rest) m
    → IsNamedPoint p (point_after p birth m front)
