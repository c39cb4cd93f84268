-- What a request is answered is of its kind.
use Rattle.std.proofs.Common.{◌≡◌, inl, inr, ◌+◌, Bool, true, false, not, List, [], ◌∷◌, ◌++◌, length, Option, Some, None, refl}
use Rattle.std.specs.Prelude.{nat_le, count_by, is_none}
use Rattle.std.specs.List.{list_any}
use Rattle.gt_base.specs.Held.{RoleWalk}
use Rattle.gt_base.specs.declared.events.UserId.{UserId}
use Rattle.gt_base.specs.declared.events.RoleId.{RoleId}
use Rattle.gt_base.specs.declared.events.SessionId.{SessionId}
use Rattle.gt_base.specs.declared.requests.Actor.{Actor}
use Rattle.gt_base.specs.declared.requests.Actor.TheVariants.{User}
use Rattle.gt_base.specs.declared.requests.Decision.{Decision}
use Rattle.gt_base.specs.declared.events.Fluent.TheVariants.{Enabled}
use Rattle.gt_base.specs.declared.requests.Request.{Request}
use Rattle.gt_base.specs.declared.requests.Request.TheVariants as requests
use Rattle.gt_base.specs.declared.requests.Refusal.{Refusal}
use Rattle.gt_base.specs.declared.requests.Refusal.TheVariants.{NoUser, SessionsFull, NoSession, NotActive, Already, Disabled, NotAssigned, RoleFull, UserFull, DaySpent}
use Rattle.gt_base.specs.declared.requests.Reply.{Reply}
use Rattle.gt_base.specs.declared.requests.Reply.TheVariants.{Truth, Queued, Session, Done, Active, Decided, Refused}
use Rattle.gtrbac_model.specs.Policy.{Policy}
use Rattle.gtrbac_model.specs.Hierarchy.{activation_walk}
use Rattle.gtrbac_model.specs.Same.{same_role}
use Rattle.gtrbac_model.specs.Calendar.{day_of}
use Rattle.gtrbac_model.specs.Conflict.{seen}
use Rattle.gtrbac_model.specs.Trigger.{holds}
use Rattle.gtrbac_model.specs.Decision.{decide}
use Rattle.gtrbac_model.specs.Sessions.{caps_of, reached, is_of, is_active_in, owner_of}
use Rattle.gtrbac_model.specs.Reply.{Point, unless, session_causes, roles_of, raise_causes, actor_causes, answer, reply_of}
use Rattle.request_text.specs.Kinds.{IsAnswer}
use Rattle.request_text.proofs.Refusals.{unless_keeps}

record Answering (q : Request) (r : Reply) : Type 0 where
  it : IsAnswer q r

refused : (q : Request) (f : Refusal) → Answering q (Refused f)
refused q f = record { it = inl (f, refl) }

unless_answers : (q : Request) (cs : List (Bool × Refusal)) (r : Reply) → Answering q r → Answering q (unless cs r)
unless_answers q = unless_keeps (Answering q) (refused q)

abbrev by_walk : Option RoleWalk → Reply
by_walk (Some w) = Active w
by_walk None = Refused NotAssigned

abbrev is_user : Actor → Bool
is_user (User u) = true
is_user _ = false

walked : (n : SessionId) (r : RoleId) (o : Option RoleWalk) → Answering (requests.Activate n r) (by_walk o)
walked n r None = refused (requests.Activate n r) NotAssigned
walked n r (Some w) = record { it = inr (w, refl) }

module _ (p : Policy) (pt : Point) (actor : Actor) where
  activates : (n : SessionId) (r : RoleId) → Answering (requests.Activate n r) (answer p pt actor (requests.Activate n r))
  activates n r = by (owner_of pt.table n) refl
    where
      by : (o : Option UserId) → owner_of pt.table n ≡ o → Answering (requests.Activate n r) (answer p pt actor (requests.Activate n r))
      by None e = rw e (refused (requests.Activate n r) NoSession)
      by (Some owner) e =
          let tb = pt.table in
          let caps = caps_of p.caps r in
          let walk = activation_walk p.edges pt.status owner r in
          let all = count_by (λ a. same_role a.role r) tb.active in
          let own = count_by (is_of owner r) tb.active in
          let spent = tb.charged owner r (day_of pt.now) in
          rw e
          (unless_answers (requests.Activate n r)
          (session_causes tb actor n
          ++ (list_any (is_active_in n r) tb.active, Already)
          ∷ (not (pt.status (Enabled r)), Disabled)
          ∷ (is_none walk, NotAssigned)
          ∷ (reached caps.total all, RoleFull all)
          ∷ (reached caps.user own, UserFull own)
          ∷ (reached caps.day spent, DaySpent spent)
          ∷ [])
          (by_walk walk) (walked n r walk))

  answers : (q : Request) → Answering q (answer p pt actor q)
  answers requests.Now = record { it = inr (pt.now, refl) }
  answers (requests.Status c) = record { it = inr (holds pt.status c, refl) }
  answers (requests.Seen e) = record { it = inr (seen pt.set e, refl) }
  answers (requests.Raise h d) = unless_answers (requests.Raise h d) (raise_causes p actor (pt.now + 1 + d)) (Queued (pt.now + 1 + d)) (record { it = inr (pt.now + 1 + d, refl) })
  answers requests.OpenSession =
      unless_answers requests.OpenSession ((not (is_user actor), NoUser) ∷ (nat_le 10000 (length pt.table.sessions), SessionsFull) ∷ []) (Session (record { 0 = pt.table.begun + 1 }))
      (record { it = inr (record { 0 = pt.table.begun + 1 }, refl) })
  answers (requests.CloseSession s) = unless_answers (requests.CloseSession s) (session_causes pt.table actor s) Done (record { it = inr refl })
  answers (requests.Activate s r) = activates s r
  answers (requests.Deactivate s r) =
      unless_answers (requests.Deactivate s r) (session_causes pt.table actor s ++ (not (list_any (is_active_in s r) pt.table.active), NotActive) ∷ []) Done (record { it = inr refl })
  answers (requests.Active s r) =
      let is : Bool = list_any (is_active_in s r) pt.table.active in
      unless_answers (requests.Active s r) (session_causes pt.table actor s) (Truth is) (record { it = inr (is, refl) })
  answers (requests.Check s q) =
      let found : Decision = decide p.edges pt.status (roles_of pt.table s) q in
      unless_answers (requests.Check s q) (session_causes pt.table actor s) (Decided found) (record { it = inr (found, refl) })

  pub reply_answers : (q : Request) → IsAnswer q (reply_of p pt actor q)
  reply_answers q = (unless_answers q (actor_causes actor) (answer p pt actor q) (answers q)).it
