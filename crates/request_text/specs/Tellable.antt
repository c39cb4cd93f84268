-- Histories whose log tells them: legal, of named moves, and without the operator.
use Rattle.std.specs.Prelude.{ℕ, ◌<◌, ◌≤◌, ◌^◌, List, [], ◌∷◌}
use Rattle.gt_base.specs.declared.requests.Who.{Who}
use Rattle.gt_base.specs.declared.requests.Actor.{Actor}
use Rattle.gt_base.specs.declared.requests.Actor.TheVariants.{Operator, User, Nobody}
use Rattle.gt_base.specs.declared.requests.Step.{Step}
use Rattle.gt_base.specs.declared.requests.Step.TheVariants.{Tick, Ask}
use Rattle.gt_base.specs.declared.requests.Entry.{Entry}
use Rattle.gt_base.specs.declared.limits.TheConstants.{LAST_MINUTE}
use Rattle.gtrbac_model.specs.Policy.{Policy}
use Rattle.gtrbac_model.specs.Status.{Model}
use Rattle.gtrbac_model.specs.History.{IsNamedWish, ask, Legal}
use Rattle.history_laws.specs.Named.{AreNamed}
use Rattle.request_text.specs.Sizes.{IsSmall}
use Rattle.request_text.specs.Kinds.{IsAnswer, IsTellable}

-- a worker and a connection are numbers of 32 bits
abbrev pub IsSmallWho : Who → Type 0
IsSmallWho w = (w.worker < 2 ^ 32) × (w.conn < 2 ^ 32)

module _ (p : Policy) where
  -- a user of the policy, or nobody
  abbrev pub IsStranger : Actor → Type 0
  IsStranger Operator = ⊥
  IsStranger (User u) = u.0 < p.users
  IsStranger Nobody = Unit {0}

  abbrev pub IsTellableStep : Step → Type 0
  IsTellableStep (Tick upto to) = (upto ≤ LAST_MINUTE) × (to ≤ LAST_MINUTE)
  IsTellableStep (Ask actor request reply) =
      IsStranger actor × IsNamedWish p (ask Operator request) × IsAnswer request reply
      × IsTellable p reply

  abbrev pub IsTellableEntry : Entry → Type 0
  IsTellableEntry e = IsSmallWho e.who × IsTellableStep e.what

  abbrev pub AreTellable : List Entry → Type 0
  AreTellable [] = Unit {0}
  AreTellable (e ∷ es) = IsTellableEntry e × AreTellable es

-- no operator, and numbers of 32 bits, as the types hold them

abbrev pub IsNoOperator : Actor → Type 0
IsNoOperator Operator = ⊥
IsNoOperator (User u) = Unit {0}
IsNoOperator Nobody = Unit {0}

abbrev pub IsPlainStep : Step → Type 0
IsPlainStep (Tick upto to) = Unit {0}
IsPlainStep (Ask actor request reply) = IsNoOperator actor × IsSmall reply

abbrev pub ArePlain : List Entry → Type 0
ArePlain [] = Unit {0}
ArePlain (e ∷ es) = IsSmallWho e.who × IsPlainStep e.what × ArePlain es

-- a legal history of moves that the policy names, none of them the operator's
pub record IsToldHistory (p : Policy) (birth : ℕ) (h : List Entry) : Type 0 where
  pub model : Model
  pub minute : birth ≤ LAST_MINUTE
  pub named : AreNamed p h
  pub legal : Legal p birth h model
  pub plain : ArePlain h
