-- What an answered request does to the table and to the signals that wait.
use Rattle.std.proofs.Common.{◌≡◌, ℕ, Bool, true, false, List, [], ◌++◌, Option, Some, None, refl, sym, ◌∙◌, ap}
use Rattle.gt_base.specs.Held.{RoleWalk}
use Rattle.gt_base.specs.declared.events.Signal.{Signal}
use Rattle.gt_base.specs.declared.events.UserId.{UserId}
use Rattle.gt_base.specs.declared.events.RoleId.{RoleId}
use Rattle.gt_base.specs.declared.events.SessionId.{SessionId}
use Rattle.gt_base.specs.declared.requests.Actor.{Actor}
use Rattle.gt_base.specs.declared.requests.Actor.TheVariants.{User, Operator, Nobody}
use Rattle.gt_base.specs.declared.requests.Request.TheVariants.{OpenSession, CloseSession, Activate, Deactivate}
use Rattle.gt_base.specs.declared.requests.Reply.{Reply}
use Rattle.gt_base.specs.declared.requests.Reply.TheVariants.{Session, Done, Active, Refused}
use Rattle.gt_base.specs.declared.policies.HierEdge.{HierEdge}
use Rattle.gt_base.specs.declared.policies.Caps.{Caps}
use Rattle.gt_base.specs.declared.requests.Refusal.{Refusal}
use Rattle.gt_base.specs.declared.requests.Request.{Request}
use Rattle.gtrbac_model.specs.Conflict.{Status}
use Rattle.gtrbac_model.specs.Reply.{answer, unless, actor_causes}
use Rattle.session_table.specs.Replies.{Answers, AnswersAt}
use Rattle.why_check.specs.Kept.{IsTableReply, IsAnsweredAt}
use Rattle.gtrbac_model.proofs.Append.{append-nil}
use Rattle.gtrbac_model.specs.Sessions.{Table, applied, owner_of}

module _ (now : ℕ) (actor : Actor) (tb tb' : Table) (w xs : List Signal) where
  pub closes : (n : SessionId) → applied now actor (CloseSession n) Done (record tb { signals = [] }) ≡ record tb' { signals = xs }
      → record tb' { signals = w ++ xs } ≡ applied now actor (CloseSession n) Done (record tb { signals = w })
  closes n is = sym (ap (λ (t : Table). record t { signals = w ++ t.signals }) is)

  pub ends : (n : SessionId) (r : RoleId) → applied now actor (Deactivate n r) Done (record tb { signals = [] }) ≡ record tb' { signals = xs }
      → record tb' { signals = w ++ xs } ≡ applied now actor (Deactivate n r) Done (record tb { signals = w })
  ends n r is = sym (ap (λ (t : Table). record t { signals = w ++ t.signals }) is)

  pub activates : (n : SessionId) (r : RoleId) (k : RoleWalk) → applied now actor (Activate n r) (Active k) (record tb { signals = [] }) ≡ record tb' { signals = xs }
      → record tb' { signals = w ++ xs } ≡ applied now actor (Activate n r) (Active k) (record tb { signals = w })
  activates n r k is = sym (ap (λ (t : Table). record t { signals = w ++ t.signals }) is) ∙ sym (by (owner_of tb n) refl)
    where
      by : (o : Option UserId) → owner_of tb n ≡ o
          → applied now actor (Activate n r) (Active k) (record tb { signals = w })
          ≡ record (applied now actor (Activate n r) (Active k) (record tb { signals = [] })) { signals = w ++ (applied now actor (Activate n r) (Active k) (record tb { signals = [] })).signals }
      by None e = rw e (λ i. record tb { signals = sym (append-nil w) i })
      by (Some u) e = rw e refl

-- an activation begins no session
pub activate_begins : (now : ℕ) (actor : Actor) (n : SessionId) (r : RoleId) (w : RoleWalk) (tb : Table) → (applied now actor (Activate n r) (Active w) tb).begun ≡ tb.begun
activate_begins now actor n r w tb = by (owner_of tb n) refl
  where
    by : (o : Option UserId) → owner_of tb n ≡ o → (applied now actor (Activate n r) (Active w) tb).begun ≡ tb.begun
    by None e = rw e refl
    by (Some u) e = rw e refl

-- a request that was answered is not refused
abbrev pub is_refusal : Reply → Bool
is_refusal (Refused r) = true
is_refusal _ = false

abbrev pub number_of : Reply → ℕ
number_of (Session n) = n.0
number_of _ = 0

refused_so : (actor : Actor) (a reply : Reply) (r : Refusal) → a ≡ Refused r → reply ≡ unless (actor_causes actor) a → is_refusal reply ≡ true
refused_so (User u) a reply r e is = ap is_refusal (is ∙ e)
refused_so Operator a reply r e is = ap is_refusal (is ∙ e)
refused_so Nobody a reply r e is = ap is_refusal is

pub refused_over : (tb : Table) (actor : Actor) (request : Request) (reply : Reply) (r : Refusal) → IsTableReply tb actor request reply → Answers tb actor request (Refused r) → is_refusal reply ≡ true
refused_over tb actor request reply r a other = refused_so actor (answer a.policy (record a.point { table = tb }) actor request) reply r (other a.policy a.point) a.is

pub refused_at : (edges : List HierEdge) (caps : List Caps) (s : Status) (now : ℕ) (tb : Table) (actor : Actor) (request : Request) (reply : Reply) (r : Refusal)
    → IsAnsweredAt edges caps s now tb actor request reply → AnswersAt edges caps s now tb actor request (Refused r) → is_refusal reply ≡ true
refused_at edges caps s now tb actor request reply r a other =
    refused_so actor (answer (record a.policy { edges = edges; caps = caps }) (record a.point { now = now; status = s; table = tb }) actor request) reply r (other a.policy a.point) a.is

pub no_done : is_refusal Done ≡ true → ⊥
no_done e = cc

pub no_session : (n : SessionId) → is_refusal (Session n) ≡ true → ⊥
no_session n e = cc

pub no_active : (w : RoleWalk) → is_refusal (Active w) ≡ true → ⊥
no_active w e = cc

-- the number that the session got
pub same_number : (tb : Table) (u : UserId) (n k : SessionId) → IsTableReply tb (User u) OpenSession (Session n) → Answers tb (User u) OpenSession (Session k) → k ≡ n
same_number tb u n k a other = λ i. record { 0 = sym (ap number_of (a.is ∙ other a.policy a.point)) i }

pub over_of_at : (edges : List HierEdge) (caps : List Caps) (s : Status) (now : ℕ) (tb : Table) (actor : Actor) (request : Request) (reply : Reply) → IsAnsweredAt edges caps s now tb actor request reply → IsTableReply tb actor request reply
over_of_at edges caps s now tb actor request reply a = record { policy = record a.policy { edges = edges; caps = caps }; point = record a.point { now = now; status = s; table = tb }; is = a.is }
