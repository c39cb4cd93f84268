-- A request for a session is answered to its owner and the operator alone.
use Rattle.std.proofs.Common.{◌≡◌, ◌≢◌, true, false, inl, inr, [], ◌∷◌, Option, Some, None, refl, sym, ◌∙◌, ap, subst}
use Rattle.std.proofs.lemmas.Bool.{eqb-true}
use Rattle.std.specs.Option.{unwrap_or}
use Rattle.gt_base.specs.declared.events.RoleId.{RoleId}
use Rattle.gt_base.specs.declared.events.PermId.{PermId}
use Rattle.gt_base.specs.declared.events.UserId.{UserId}
use Rattle.gt_base.specs.declared.events.SessionId.{SessionId}
use Rattle.gt_base.specs.declared.requests.Actor.{Actor}
use Rattle.gt_base.specs.declared.requests.Actor.TheVariants.{User, Operator, Nobody}
use Rattle.gt_base.specs.declared.requests.Request.{Request}
use Rattle.gt_base.specs.declared.requests.Request.TheVariants.{Now, Status, Seen, Raise, OpenSession, CloseSession, Activate, Deactivate, Active, Check}
use Rattle.gt_base.specs.declared.requests.Refusal.{Refusal}
use Rattle.gt_base.specs.declared.requests.Refusal.TheVariants.{NotYours, NoSession}
use Rattle.gt_base.specs.declared.requests.Reply.{Reply}
use Rattle.gt_base.specs.declared.requests.Reply.TheVariants.{Refused}
use Rattle.gt_base.specs.Machines.{asked}
use Rattle.gtrbac_model.specs.Policy.{Policy}
use Rattle.gtrbac_model.specs.Same.{same_user}
use Rattle.gtrbac_model.specs.Sessions.{owner_of}
use Rattle.gtrbac_model.specs.Reply.{Point, answer, reply_of}
use Rattle.gtrbac_model.specs.History.{AreLegalAfter, point_after}
use Rattle.gtrbac_model.proofs.Elements.{split}
use Rattle.history_laws.proofs.Refusing.{refused_leaves, refused_raises}
use Rattle.history_laws.proofs.Lasting.{steps_after}
use Rattle.history_laws.specs.Looks.{ChangesNothing}
use Rattle.audit_laws.specs.Owners.{session_of, IsOwn, is_refused, OwnersAct, OthersAreTurnedAway}
use Rattle.history_laws.proofs.Silent.{changes_nothing}

-- users of one number are one
pub one_user : (a b : UserId) → same_user a b ≡ true → b ≡ a
one_user a b e = λ i. record { 0 = sym (eqb-true a.0 b.0 e) i }

other_number : (a b : UserId) → a ≢ b → same_user a b ≡ false
other_number a b other = split (same_user a b) (λ q. absurd (other (sym (one_user a b q)))) (λ q. q)

-- what holds of each request for a session holds of this one
module _ (n : SessionId) (P : Request → Type 0) (close : P (CloseSession n)) (activate : (r : RoleId) → P (Activate n r)) (deactivate : (r : RoleId) → P (Deactivate n r)) (active : (r : RoleId) → P (Active n r)) (check : (q : PermId) → P (Check n q)) where
  same : (k : SessionId) → ◌≡◌ {A = Option SessionId} (Some k) (Some n) → n ≡ k
  same k is = sym (ap (λ o. unwrap_or o k) is)

  of_session : (request : Request) → session_of request ≡ Some n → P request
  of_session Now is = cc
  of_session (Status c) is = cc
  of_session (Seen e) is = cc
  of_session (Raise head delay) is = cc
  of_session OpenSession is = cc
  of_session (CloseSession k) is = subst (λ j. P (CloseSession j)) (same k is) close
  of_session (Activate k r) is = subst (λ j. P (Activate j r)) (same k is) (activate r)
  of_session (Deactivate k r) is = subst (λ j. P (Deactivate j r)) (same k is) (deactivate r)
  of_session (Active k r) is = subst (λ j. P (Active j r)) (same k is) (active r)
  of_session (Check k q) is = subst (λ j. P (Check j q)) (same k is) (check q)

module _ (p : Policy) (pt : Point) (n : SessionId) where
  -- where an open session is another's, the first cause that is there is that it is
  turned_away : (u owner : UserId) → owner_of pt.table n ≡ Some owner → same_user owner u ≡ false → (request : Request) → session_of request ≡ Some n → reply_of p pt (User u) request ≡ Refused NotYours
  turned_away u owner is_open other =
      of_session n (λ request. reply_of p pt (User u) request ≡ Refused NotYours)
      (rw is_open (rw other refl)) (λ r. rw is_open (rw is_open (rw other refl))) (λ r. rw is_open (rw other refl)) (λ r. rw is_open (rw other refl)) (λ q. rw is_open (rw other refl))

  -- where it is not open, that is the first one
  not_open : (actor : Actor) → owner_of pt.table n ≡ None → (request : Request) → session_of request ≡ Some n → answer p pt actor request ≡ Refused NoSession
  not_open actor none =
      of_session n (λ request. answer p pt actor request ≡ Refused NoSession) (rw none refl) (λ r. rw none refl) (λ r. rw none refl) (λ r. rw none refl) (λ q. rw none refl)

  clash : (reply : Reply) (why : Refusal) → is_refused reply ≡ false → reply ≡ Refused why → ⊥
  clash reply why answered is = let h : is_refused reply ≡ true = ap is_refused is in cc

  pub own : (actor : Actor) (request : Request) (reply : Reply) (o : Option UserId) → owner_of pt.table n ≡ o → session_of request ≡ Some n → is_refused reply ≡ false → reply ≡ reply_of p pt actor request → IsOwn pt.table actor n
  own Nobody request reply o e is answered legal = absurd (clash reply _ answered legal)
  own Operator request reply None e is answered legal = absurd (clash reply NoSession answered (legal ∙ not_open Operator e request is))
  own Operator request reply (Some owner) e is answered legal = record { owner = owner; is_open = e; may_ask = inr refl }
  own (User u) request reply None e is answered legal = absurd (clash reply NoSession answered (legal ∙ not_open (User u) e request is))
  own (User u) request reply (Some owner) e is answered legal =
      split (same_user owner u)
      (λ q. record { owner = owner; is_open = e; may_ask = inl (ap User (one_user owner u q)) })
      (λ q. absurd (clash reply NotYours answered (legal ∙ turned_away u owner e q request is)))

pub owners_act : OwnersAct
owners_act p birth m g h who actor request reply n legal is answered =
    own p (point_after p birth m g) n actor request reply (owner_of (point_after p birth m g).table n) refl is answered (steps_after p birth m [] g (asked who actor request reply ∷ h) legal.steps).0

pub others_are_turned_away : OthersAreTurnedAway
others_are_turned_away p birth m g h who u request reply legal is =
    let steps : AreLegalAfter p birth m g (asked who (User u) request reply ∷ h) = steps_after p birth m [] g (asked who (User u) request reply ∷ h) legal.steps in
    let away : reply ≡ Refused NotYours = steps.0 ∙ turned_away p (point_after p birth m g) is.session u is.owner is.is_open (other_number is.owner u is.anothers) request is.is_for in
    record {
      refused = away;
      nothing = subst (λ r. ChangesNothing p birth m g (asked who (User u) request r) h) (sym away)
          (changes_nothing who (User u) request (Refused NotYours) (record { leaves = λ now tb. refused_leaves now (User u) request NotYours tb; raises = λ t. refused_raises t request NotYours }) p birth m g h);
    }
