-- What the model answers over a table.
use Rattle.std.specs.Prelude.{◌≡◌, ℕ, List}
use Rattle.gt_base.specs.declared.policies.Caps.{Caps}
use Rattle.gt_base.specs.declared.policies.HierEdge.{HierEdge}
use Rattle.gt_base.specs.declared.requests.Actor.{Actor}
use Rattle.gt_base.specs.declared.requests.Request.{Request}
use Rattle.gt_base.specs.declared.requests.Reply.{Reply}
use Rattle.gt_base.specs.declared.requests.Reply.TheVariants.{Decided, Refused as IsRefused}
use Rattle.gt_base.specs.declared.requests.Request.TheVariants.{Check}
use Rattle.gt_base.specs.declared.events.RoleId.{RoleId}
use Rattle.gt_base.specs.declared.events.PermId.{PermId}
use Rattle.gt_base.specs.declared.events.SessionId.{SessionId}
use Rattle.gtrbac_model.specs.Decision.{decide}
use Rattle.gtrbac_model.specs.Conflict.{Status}
use Rattle.gtrbac_model.specs.Policy.{Policy}
use Rattle.gtrbac_model.specs.Sessions.{Table}
use Rattle.gtrbac_model.specs.Reply.{Point, answer}
use Rattle.session_table.specs.declared.faults.SessionFault.{SessionFault}
use Rattle.session_table.specs.declared.faults.SessionFault.TheVariants.{Refused, Memory}

-- over this table the request is answered so, whatever the policy, the instant and the status
abbrev pub Answers : Table → Actor → Request → Reply → Type 0
Answers tb actor request reply =
    (p : Policy) (pt : Point) → answer p (record pt { table = tb }) actor request ≡ reply

-- over this table and in this status it is answered so at the instant now, under these edges and
-- caps
abbrev pub AnswersAt : List HierEdge → List Caps → Status → ℕ → Table → Actor → Request → Reply
    → Type 0
AnswersAt edges caps s now tb actor request reply =
    (p : Policy) (pt : Point)
    → answer (record p { edges = edges; caps = caps })
    (record pt { now = now; status = s; table = tb }) actor request
    ≡ reply

-- the fault is want of memory, or the refusal with which it is answered
abbrev pub OrRefused : SessionFault → (Reply → Type 0) → Type 0
OrRefused (Refused r) answers = answers (IsRefused r)
OrRefused Memory answers = Unit {0}

-- the fault is the refusal with which it is answered
abbrev pub IsRefusal : SessionFault → (Reply → Type 0) → Type 0
IsRefusal (Refused r) answers = answers (IsRefused r)
IsRefusal Memory answers = ⊥

-- a check of the permission is answered by the decision over these active roles
abbrev pub ChecksBy : Table → Actor → SessionId → PermId → List RoleId → Type 0
ChecksBy tb actor n perm roles =
    (p : Policy) (pt : Point)
    → answer p (record pt { table = tb }) actor (Check n perm)
    ≡ Decided (decide p.edges pt.status roles perm)
