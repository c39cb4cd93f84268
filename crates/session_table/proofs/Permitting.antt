-- What the steps of an activation tell of its answer.
use Rattle.std.proofs.Common.{◌≡◌, ℕ, false, set, List, [], ◌∷◌, ◌++◌, map, count_by, Option, Some, None, is_none, IfSome, Result, Ok, Err, IfOk, refl, sym, ap, subst, ◌∙◌}
use Rattle.std.specs.List.{slice_get, list_any}
use Rattle.gt_base.specs.Sets.{with_member}
use Rattle.gt_base.specs.declared.events.RoleId.{RoleId}
use Rattle.gt_base.specs.declared.events.UserId.{UserId}
use Rattle.gt_base.specs.declared.events.SessionId.{SessionId}
use Rattle.gt_base.specs.declared.policies.Caps.{Caps}
use Rattle.gt_base.specs.declared.policies.HierEdge.{HierEdge}
use Rattle.gt_base.specs.declared.requests.Actor.{Actor}
use Rattle.gt_base.specs.declared.requests.Request.TheVariants.{Activate}
use Rattle.gt_base.specs.declared.requests.Reply.TheVariants.{Refused}
use Rattle.gt_base.specs.declared.requests.Refusal.{Refusal}
use Rattle.gt_base.specs.declared.requests.Refusal.TheVariants.{NotAssigned}
use Rattle.gt_base.specs.Held.{RoleWalk}
use Rattle.gtrbac_model.specs.Same.{same_role}
use Rattle.gtrbac_model.specs.Calendar.{day_of}
use Rattle.gtrbac_model.specs.Hierarchy.{activation_walk}
use Rattle.gtrbac_model.specs.Conflict.{Status}
use Rattle.gtrbac_model.specs.Sessions.{Table, Activation, caps_of, is_of, is_active_in}
use Rattle.gtrbac_model.specs.Reply.{session_causes}
use Rattle.session_table.specs.declared.faults.SessionFault.{SessionFault}
use Rattle.session_table.specs.declared.opened.Open.{Open}
use Rattle.session_table.specs.Causes.{first_cause, StandsAt, early_causes, late_causes}
use Rattle.session_table.specs.Charges.{Charged, charged_in}
use Rattle.session_table.specs.Kept.{AreKeptRows, IsTable}
use Rattle.session_table.specs.Opened.{opened, still_open, NumberedFrom}
use Rattle.session_table.specs.Permits.{rows_table, walk_causes, IsReadyUser, IsFirstCause, Lets, IsCauseOf, IsPermitted}
use Rattle.session_table.specs.Replies.{AnswersAt, OrRefused}
use Rattle.session_table.proofs.Entering.{activation}
use Rattle.session_table.proofs.Finding.{inside}
use Rattle.session_table.proofs.Indexing.{kept_opened, kept_open}
use Rattle.session_table.proofs.Keeping.{as_many_open, entered}
use Rattle.session_table.proofs.Answering.{refused_front, refused_rest, allowed, early_none, or_refused}

module _ (edges : List HierEdge) (caps : List Caps) (s : Status) (now : ℕ) (actor : Actor) (n : SessionId) (r : RoleId) (os : List Open) (active : List Activation) (charges : Charged) (to : Option ℕ)
    (kept : AreKeptRows os active charges to) where
  pub front_refuses : (x : Refusal) → IsFirstCause s actor n r os x → (begun : ℕ) → AnswersAt edges caps s now (rows_table os active charges begun) actor (Activate n r) (Refused x)
  front_refuses x h begun =
      let tb : Table = rows_table os active charges begun in
      refused_front edges caps s now tb actor n r x (ap (λ b. first_cause (session_causes tb actor n ++ early_causes s b r)) (sym (kept.index n r)) ∙ h tb)

  module _ (at : ℕ) (u : UserId) (ready : IsReadyUser s actor n r os at u) where
    pub walk_refuses : (fault : SessionFault) → IsCauseOf fault (walk_causes edges caps s now active charges u r)
        → (begun : ℕ) → OrRefused fault (AnswersAt edges caps s now (rows_table os active charges begun) actor (Activate n r))
    walk_refuses fault h begun =
        let tb : Table = rows_table os active charges begun in
        or_refused fault (walk_causes edges caps s now active charges u r) (AnswersAt edges caps s now tb actor (Activate n r)) h
        (λ x e. refused_rest edges caps s now tb actor n r u (ready.owner tb) (ready.may tb) (subst (λ b. first_cause (early_causes s b r) ≡ None) (kept.index n r) ready.early) x e)

    pub permits : (w : RoleWalk) → Lets edges caps s now active charges u r w → IsPermitted edges caps s now actor n r os active charges at u w
    permits w h = record {
      stands = ready.stands;
      owner = ready.owner;
      fresh = sym (kept.index n r) ∙ early_none s _ r ready.early;
      answer = λ begun.
          let tb : Table = rows_table os active charges begun in
          allowed edges caps s now tb actor n r u (ready.owner tb) (ready.may tb) (subst (λ b. first_cause (early_causes s b r) ≡ None) (kept.index n r) ready.early) w h.walk h.late;
    }

module _ (edges : List HierEdge) (caps : List Caps) (s : Status) (now : ℕ) (active : List Activation) (charges : Charged) (u : UserId) (r : RoleId) where
  pub no_walk : activation_walk edges s u r ≡ None → first_cause (walk_causes edges caps s now active charges u r) ≡ Some NotAssigned
  no_walk e =
      ap
      (λ w. first_cause ((is_none w, NotAssigned) ∷ late_causes (caps_of caps r) (count_by (λ a. same_role a.role r) active) (count_by (is_of u r) active) (charged_in charges u r (day_of now))))
      e

  pub past_walk : (w : RoleWalk) → activation_walk edges s u r ≡ Some w → (o x : Option Refusal) (k : Caps) (d : ℕ)
      → o ≡ first_cause (late_causes k (count_by (λ a. same_role a.role r) active) (count_by (is_of u r) active) (charged_in charges u r d))
      → k ≡ caps_of caps r → d ≡ day_of now → o ≡ x → first_cause (walk_causes edges caps s now active charges u r) ≡ x
  past_walk w e o x k d told capped today is =
      ap
      (λ w. first_cause ((is_none w, NotAssigned) ∷ late_causes (caps_of caps r) (count_by (λ a. same_role a.role r) active) (count_by (is_of u r) active) (charged_in charges u r (day_of now))))
      e
      ∙ (λ i. first_cause (late_causes (sym capped i) (count_by (λ a. same_role a.role r) active) (count_by (is_of u r) active) (charged_in charges u r (sym today i))))
      ∙ sym told ∙ is

-- the rows with a role that enters
abbrev pub IsWith : List Open → ℕ → RoleId → List Open → Type 0
IsWith os at r new = IfSome (slice_get os at) (λ o. new ≡ set os at (record o { roles = with_member o.roles r }))

module _ (os new : List Open) (n : SessionId) (at : ℕ) (stands : StandsAt os n at) (r : RoleId) (is : IsWith os at r new) where
  pub enters : (standing : ℕ) (active : List Activation) (charges : Charged) (to : Option ℕ) (begun : ℕ) → IsTable os standing active charges to begun
      → (u : UserId) (t : ℕ) → list_any (is_active_in n r) active ≡ false → IsTable new standing (active ++ activation n u r t ∷ []) charges to begun
  enters standing active charges to begun h u t fresh =
      let (o, there) = inside os at stands.inside in
      let p : Open = record o { roles = with_member o.roles r } in
      let e : new ≡ set os at p = subst (λ x. IfSome x (λ (o : Open). new ≡ set os at (record o { roles = with_member o.roles r }))) there is in
      record {
        kept = subst (λ os. AreKeptRows os (active ++ activation n u r t ∷ []) charges to) (sym e) (entered os active charges to h.kept n at stands o there r u t fresh);
        counted = h.counted ∙ sym (as_many_open os at o p there refl) ∙ ap (count_by (λ (o : Open). o.is_open)) (sym e);
        numbered = subst (λ ss. NumberedFrom 0 ss begun) (sym (ap (map opened) e ∙ kept_opened os at o p there refl)) h.numbered;
      }

  pub stay_open : map opened (still_open new) ≡ map opened (still_open os)
  stay_open =
      let (o, there) = inside os at stands.inside in
      let p : Open = record o { roles = with_member o.roles r } in
      let e : new ≡ set os at p = subst (λ x. IfSome x (λ (o : Open). new ≡ set os at (record o { roles = with_member o.roles r }))) there is in
      ap (λ os. map opened (still_open os)) e ∙ kept_open os at o p there refl refl

pub if_ok : {A E : Type 0} {P Q : A → Type 0} (r : Result A E) → IfOk r P → ((a : A) → P a → Q a) → IfOk r Q
if_ok (Ok a) h f = f a h
if_ok (Err e) h f = tt
