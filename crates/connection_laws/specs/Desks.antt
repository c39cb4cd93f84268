-- What a policy has to do with the machine that its connections ask.
use Rattle.std.specs.Prelude.{◌≡◌, ℕ, List, [], ◌∷◌, ◌++◌, IsTrue}
use Rattle.gt_base.specs.Machines.{asked}
use Rattle.gt_base.specs.declared.requests.Who.{Who}
use Rattle.gt_base.specs.declared.requests.Actor.{Actor}
use Rattle.gt_base.specs.declared.requests.Request.{Request}
use Rattle.gt_base.specs.declared.requests.Request.TheVariants.{Now}
use Rattle.gt_base.specs.declared.requests.Reply.{Reply}
use Rattle.gt_base.specs.declared.requests.Entry.{Entry}
use Rattle.gtrbac_model.specs.Policy.{Policy}
use Rattle.gtrbac_model.specs.Status.{Model}
use Rattle.gtrbac_model.specs.Reply.{reply_of}
use Rattle.gtrbac_model.specs.History.{IsNamedWish, ask, Legal, point_after}
use Rattle.history_laws.specs.Named.{AreNamed}
use Rattle.policy_words.specs.Naming.{NamedPolicy}
use Rattle.request_text.specs.Named.{has_reply}
use Rattle.request_text.specs.Sizes.{IsBrief}

-- a user of the policy, the operator, or nobody
abbrev pub IsNamedActor : NamedPolicy → Actor → Type 0
IsNamedActor np actor = IsNamedWish np.policy (ask actor Now)

-- what the policy names may be asked
abbrev pub MayBeAsked : NamedPolicy → (Actor → Request → Type 0) → Type 0
MayBeAsked np named =
    (actor : Actor) (request : Request) → IsNamedWish np.policy (ask actor request)
    → named actor request

-- a reply with numbers of the policy, whose walk has at most 999 edges: so its line has at most
-- 33,010 bytes
pub record CanBeTold (np : NamedPolicy) (r : Reply) : Type 0 where
  pub named : IsTrue (has_reply np.policy r)
  pub brief : IsBrief r

-- so is each reply that ends a legal list
abbrev pub RepliesCanBeTold : NamedPolicy → (List Entry → Type 0) → Type 0
RepliesCanBeTold np legal =
    (before : List Entry) (who : Who) (actor : Actor) (request : Request) (reply : Reply)
    → legal (before ++ asked who actor request reply ∷ []) → CanBeTold np reply

-- The history is legal and of named moves, with a model by which the request is replied so at its
-- end
pub record IsReplyAt (p : Policy) (birth : ℕ) (h : List Entry) (actor : Actor) (request : Request)
    (reply : Reply) : Type 0 where
  pub model : Model
  pub legal : Legal p birth h model
  pub named : AreNamed p h
  pub reply_is : reply ≡ reply_of p (point_after p birth model h) actor request

-- each such reply to what the policy names can be told
abbrev pub GlancesCanBeTold : NamedPolicy → ℕ → Type 0
GlancesCanBeTold np birth =
    (h : List Entry) (actor : Actor) (request : Request) (reply : Reply)
    → IsNamedWish np.policy (ask actor request) → IsReplyAt np.policy birth h actor request reply
    → CanBeTold np reply
