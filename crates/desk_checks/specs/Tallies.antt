-- What a tally is, and which of its lists are legal.
use Rattle.std.specs.Prelude.{◌≡◌, ℕ, ◌+◌, ◌<◌, List, [], ◌∷◌}
use Rattle.gt_base.specs.declared.requests.Entry.{Entry}
use Rattle.gt_base.specs.declared.requests.Step.{Step}
use Rattle.gt_base.specs.declared.requests.Step.TheVariants.{Tick, Ask}
use Rattle.gt_base.specs.declared.requests.Actor.{Actor}
use Rattle.gt_base.specs.declared.requests.Actor.TheVariants.{Nobody, Operator, User}
use Rattle.gt_base.specs.declared.requests.Request.{Request}
use Rattle.gt_base.specs.declared.requests.Request.TheVariants as request
use Rattle.gt_base.specs.declared.requests.Reply.{Reply}
use Rattle.gt_base.specs.declared.requests.Reply.TheVariants as reply
use Rattle.gtrbac_model.specs.History.{moved}

-- birth and users are the root
pub record Held : Type 0 where
  pub birth : ℕ
  pub users : ℕ
  pub entries : List Entry

-- the reply at an instant, where so many entries are held
abbrev pub reply_at : ℕ → ℕ → Request → Reply
reply_at now held request.Now = reply.Now now
reply_at now held request.OpenSession = reply.Session (record { 0 = held + 1 })
reply_at now held _ = reply.Done

abbrev pub now_from : ℕ → List Entry → ℕ
now_from now [] = now
now_from now (e ∷ es) = now_from (moved now e.what) es

abbrev pub MayStep : ℕ → ℕ → Step → Type 0
MayStep now held (Tick upto to) = (now < upto) × (to ≡ upto)
MayStep now held (Ask actor asked answer) = answer ≡ reply_at now held asked

abbrev pub LegalFrom : ℕ → ℕ → List Entry → Type 0
LegalFrom now held [] = Unit {0}
LegalFrom now held (e ∷ es) =
    MayStep now held e.what × LegalFrom (moved now e.what) (held + 1) es

abbrev pub IsTallied : ℕ → Actor → Type 0
IsTallied users Nobody = Unit {0}
IsTallied users Operator = Unit {0}
IsTallied users (User u) = u.0 < users

abbrev pub SameTallyRoot : Held → Held → Type 0
SameTallyRoot x y = (x.birth ≡ y.birth) × (x.users ≡ y.users)
