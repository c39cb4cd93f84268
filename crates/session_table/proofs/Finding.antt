-- The place of a session, and the session of the model.
use Rattle.std.proofs.Common.{◌≡◌, ℕ, zero, suc, ◌<◌, ◌≤◌, Bool, true, false, cond, not, ◌&&◌, nat_lt, List, [], ◌∷◌, length, map, find, Option, Some, None, is_none, MatchOption, IfSome, refl, sym, ap, subst, ◌∙◌, arith}
use Rattle.std.specs.List.{slice_get, position, position_or_len}
use Rattle.std.proofs.lemmas.Bool.{ltb-true, ltb-false}
use Rattle.std.proofs.lemmas.List.Folds.{find_at}
use Rattle.gt_base.specs.declared.events.SessionId.{SessionId}
use Rattle.gt_base.specs.declared.events.UserId.{UserId}
use Rattle.gt_base.specs.declared.requests.Actor.{Actor}
use Rattle.gt_base.specs.declared.requests.Actor.TheVariants.{Operator, User, Nobody}
use Rattle.gt_base.specs.declared.requests.Refusal.{Refusal}
use Rattle.gt_base.specs.declared.requests.Refusal.TheVariants.{NoSession, NotYours}
use Rattle.gtrbac_model.specs.Same.{same_session, same_user}
use Rattle.gtrbac_model.specs.Sessions.{Table, OpenedSession, owner_of}
use Rattle.gtrbac_model.specs.Reply.{session_causes}
use Rattle.session_table.specs.declared.opened.Open.{Open}
use Rattle.session_table.specs.Opened.{numbered, opened, still_open}
use Rattle.session_table.specs.Causes.{first_cause, is_foreign, StandsAt, with_sessions}
use Rattle.session_table.proofs.Charging.{split}

beyond : {A : Type 0} (xs : List A) (n : ℕ) → length xs ≤ n → slice_get xs n ≡ None
beyond [] n h = refl
beyond (x ∷ xs) zero h = absurd (omega arith)
beyond (x ∷ xs) (suc n) h = beyond xs n (omega arith)

pub inside : {A : Type 0} (xs : List A) (n : ℕ) → n < length xs → (x : A) × (slice_get xs n ≡ Some x)
inside [] n h = absurd (omega arith)
inside (x ∷ xs) zero h = (x, refl)
inside (x ∷ xs) (suc n) h = inside xs n (omega arith)

pub located : (os : List Open) (n : SessionId) → MatchOption (position (numbered n) os) (find (numbered n) os ≡ None) (StandsAt os n)
located os n =
    split (nat_lt (position_or_len (numbered n) os) (length os))
    (λ e. subst (λ b. MatchOption (cond b (Some (position_or_len (numbered n) os)) None) (find (numbered n) os ≡ None) (StandsAt os n)) (sym e)
    (record { inside = ltb-true _ _ e; first = refl }))
    (λ e. subst (λ b. MatchOption (cond b (Some (position_or_len (numbered n) os)) None) (find (numbered n) os ≡ None) (StandsAt os n)) (sym e)
    (find_at (numbered n) os ∙ beyond os _ (ltb-false _ _ e)))

-- the session at the place
pub standing : (os : List Open) (n : SessionId) (at : ℕ) → StandsAt os n at → (o : Open) × (find (numbered n) os ≡ Some o) × (slice_get os at ≡ Some o)
standing os n at h = let (o, e) = inside os at h.inside in (o, find_at (numbered n) os ∙ ap (slice_get os) (sym h.first) ∙ e, e)

abbrev seen : Option Open → Option OpenedSession
seen None = None
seen (Some o) = Some (opened o)

find_opened : (os : List Open) (n : SessionId) → find (λ o. same_session o.number n) (map opened (still_open os)) ≡ seen (find (numbered n) os)
find_opened [] n = refl
find_opened (o ∷ os) n = by o.is_open refl (find_opened os n)
  where
    on : (b : Bool) → find (λ o. same_session o.number n) (map opened (still_open os)) ≡ seen (find (numbered n) os)
        → cond b (Some (opened o)) (find (λ o. same_session o.number n) (map opened (still_open os))) ≡ seen (cond b (Some o) (find (numbered n) os))
    on true e = refl
    on false e = e

    by : (b : Bool) → o.is_open ≡ b → find (λ o. same_session o.number n) (map opened (still_open os)) ≡ seen (find (numbered n) os)
        → find (λ o. same_session o.number n) (map opened (cond b (o ∷ still_open os) (still_open os))) ≡ seen (cond (o.is_open && same_session o.number n) (Some o) (find (numbered n) os))
    by true is e = on (same_session o.number n) e ∙ ap (λ b. seen (cond (b && same_session o.number n) (Some o) (find (numbered n) os))) (sym is)
    by false is e = e ∙ ap (λ b. seen (cond (b && same_session o.number n) (Some o) (find (numbered n) os))) (sym is)

abbrev owner : Option OpenedSession → Option UserId
owner None = None
owner (Some o) = Some o.owner

pub owner_is : (os : List Open) (n : SessionId) (o : Open) → find (numbered n) os ≡ Some o → (tb : Table) → owner_of (with_sessions os tb) n ≡ Some o.owner
owner_is os n o e tb = ap owner (find_opened os n ∙ ap seen e)

pub no_owner : (os : List Open) (n : SessionId) → find (numbered n) os ≡ None → (tb : Table) → owner_of (with_sessions os tb) n ≡ None
no_owner os n e tb = ap owner (find_opened os n ∙ ap seen e)

pub owner_at : (os : List Open) (n : SessionId) (at : ℕ) (u : UserId) → StandsAt os n at → IfSome (slice_get os at) (λ o. u ≡ o.owner) → (tb : Table) → owner_of (with_sessions os tb) n ≡ Some u
owner_at os n at u h own tb =
    let (o, is, there) = standing os n at h in
    let same : u ≡ o.owner = subst (λ x. IfSome x (λ o. u ≡ o.owner)) there own in
    owner_is os n o is tb ∙ ap Some (sym same)

abbrev foreign_to : Option UserId → Actor → Bool
foreign_to (Some owner) (User u) = not (same_user owner u)
foreign_to _ _ = false

abbrev pub causes_of : Option UserId → Actor → List (Bool × Refusal)
causes_of o actor = (is_none o, NoSession) ∷ (foreign_to o actor, NotYours) ∷ []

pub no_session : (os : List Open) (n : SessionId) → find (numbered n) os ≡ None → (actor : Actor) (tb : Table) → first_cause (session_causes (with_sessions os tb) actor n) ≡ Some NoSession
no_session os n e actor tb = ap (λ o. first_cause (causes_of o actor)) (no_owner os n e tb)

owned_causes : (owner : UserId) (actor : Actor) → first_cause (causes_of (Some owner) actor) ≡ cond (is_foreign owner actor) (Some NotYours) None
owned_causes owner (User u) = refl
owned_causes owner Operator = refl
owned_causes owner Nobody = refl

pub by_owner : (os : List Open) (n : SessionId) (o : Open) → find (numbered n) os ≡ Some o → (actor : Actor) (tb : Table)
    → first_cause (session_causes (with_sessions os tb) actor n) ≡ cond (is_foreign o.owner actor) (Some NotYours) None
by_owner os n o e actor tb = ap (λ u. first_cause (causes_of u actor)) (owner_is os n o e tb) ∙ owned_causes o.owner actor

pub foreign : (os : List Open) (n : SessionId) (at : ℕ) (owner : UserId) (actor : Actor) → StandsAt os n at → IfSome (slice_get os at) (λ o. owner ≡ o.owner) → (b : Bool) → b ≡ is_foreign owner actor
    → (tb : Table) → first_cause (session_causes (with_sessions os tb) actor n) ≡ cond b (Some NotYours) None
foreign os n at owner actor h own b e tb =
    let (o, is, there) = standing os n at h in
    let same : owner ≡ o.owner = subst (λ x. IfSome x (λ o. owner ≡ o.owner)) there own in
    by_owner os n o is actor tb ∙ ap (λ u. cond (is_foreign u actor) (Some NotYours) None) (sym same) ∙ ap (λ b. cond b (Some NotYours) None) (sym e)
