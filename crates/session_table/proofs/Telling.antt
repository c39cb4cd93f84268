-- What a call tells of the table that it is seen as.
use Rattle.std.proofs.Common.{◌≡◌, ℕ, ◌≤◌, Bool, true, false, cond, ◌&&◌, ◌||◌, ◌+◌, List, [], ◌∷◌, map, filter, find, count_by, Option, Some, None, IfSome, Result, Ok, Err, IfOk, refl, sym, ap, subst, ◌∙◌, arith}
use Rattle.std.specs.List.{slice_get, list_any}
use Rattle.std.specs.Ordering.{eq_by_cmp}
use Rattle.gt_base.specs.declared.events.RoleId.{RoleId}
use Rattle.gt_base.specs.declared.events.SessionId.{SessionId}
use Rattle.gt_base.specs.declared.requests.Actor.{Actor}
use Rattle.gt_base.specs.declared.requests.Refusal.{Refusal}
use Rattle.gt_base.specs.Sets.{has, members}
use Rattle.gt_base.proofs.SetLaws.{has-members}
use Rattle.gtrbac_model.specs.Same.{same_role, same_session, lists}
use Rattle.gtrbac_model.specs.Sessions.{Table, Activation, is_active_in}
use Rattle.gtrbac_model.specs.Reply.{session_causes, roles_of}
use Rattle.session_table.specs.declared.opened.Open.{Open}
use Rattle.session_table.specs.RoleSets.{role_cmp}
use Rattle.session_table.specs.Opened.{opened, still_open, role_in}
use Rattle.session_table.specs.Causes.{first_cause, StandsAt, with_sessions}
use Rattle.session_table.specs.Tables.{TableView, table_of}
use Rattle.session_table.specs.Charges.{Charged}
use Rattle.session_table.specs.Kept.{AreKeptRows}
use Rattle.session_table.proofs.RoleOrder.{tied_is_same}
use Rattle.session_table.proofs.Finding.{standing}
use Rattle.session_table.proofs.Indexing.{count_cons, eq_turned}

pub same_table : (a b : Table) → a.sessions ≡ b.sessions → a.active ≡ b.active → a.charged ≡ b.charged → a.begun ≡ b.begun → a.signals ≡ b.signals → a ≡ b
same_table a b s t c g l = λ i. record { sessions = s i; active = t i; charged = c i; begun = g i; signals = l i }

module _ (v : TableView) (os : List Open) (e : map opened (still_open os) ≡ v.sessions) where
  pub causes : (actor : Actor) (n : SessionId) (x : Option Refusal) → ((tb : Table) → first_cause (session_causes (with_sessions os tb) actor n) ≡ x) → first_cause (session_causes (table_of v) actor n) ≡ x
  causes actor n x h = subst (λ ss. first_cause (session_causes (record (table_of v) { sessions = ss }) actor n) ≡ x) e (h (table_of v))

pub listed_at : (os : List Open) (active : List Activation) (charges : Charged) (to : Option ℕ) → AreKeptRows os active charges to → (n : SessionId) (at : ℕ) → StandsAt os n at
    → (roles : List RoleId) → IfSome (slice_get os at) (λ o. roles ≡ members o.roles) → (r : RoleId) → lists same_role roles r ≡ list_any (is_active_in n r) active
listed_at os active charges to h n at stands roles told r =
    let (o, is, there) = standing os n at stands in
    let same : roles ≡ members o.roles = subst (λ x. IfSome x (λ o. roles ≡ members o.roles)) there told in
    ap (λ p. list_any p roles) (λ i x. sym (tied_is_same r x) i)
    ∙ ap (list_any (λ x. eq_by_cmp role_cmp r x)) same
    ∙ sym (has-members o.roles r)
    ∙ sym (ap (λ x. elim x [ Some o ↦ has o.roles r | None ↦ false ]) is)
    ∙ h.index n r

pub not_found : {A : Type 0} (p : A → Bool) (xs : List A) → find p xs ≡ None → list_any p xs ≡ false
not_found p [] e = refl
not_found p (x ∷ xs) e = by (p x) e (not_found p xs)
  where
    by : (b : Bool) → cond b (Some x) (find p xs) ≡ None → (find p xs ≡ None → list_any p xs ≡ false) → (b || list_any p xs) ≡ false
    by true e h = cc
    by false e h = h e

pub is_found : {A : Type 0} (p : A → Bool) (xs : List A) (a : A) → find p xs ≡ Some a → list_any p xs ≡ true
is_found p [] a e = cc
is_found p (x ∷ xs) a e = by (p x) e (is_found p xs a)
  where
    by : (b : Bool) → cond b (Some x) (find p xs) ≡ Some a → (find p xs ≡ Some a → list_any p xs ≡ true) → (b || list_any p xs) ≡ true
    by true e h = refl
    by false e h = h e

none_kept : {A : Type 0} (p : A → Bool) (xs : List A) → count_by p xs ≡ 0 → filter p xs ≡ []
none_kept p [] e = refl
none_kept p (x ∷ xs) e = by (p x) (sym (count_cons p x xs) ∙ e) (none_kept p xs)
  where
    by : (b : Bool) → cond b 1 0 + count_by p xs ≡ 0 → (count_by p xs ≡ 0 → filter p xs ≡ []) → cond b (x ∷ filter p xs) (filter p xs) ≡ []
    by true e h = absurd (omega arith)
    by false e h = h (omega (arith, e))

-- one that is found, and no other, is all that passes
pub only_one : {A : Type 0} (p : A → Bool) (xs : List A) (a : A) → find p xs ≡ Some a → count_by p xs ≤ 1 → filter p xs ≡ a ∷ []
only_one p [] a e h = cc
only_one p (x ∷ xs) a e h = by (p x) e (subst (λ n. n ≤ 1) (count_cons p x xs) h) (only_one p xs a)
  where
    by : (b : Bool) → cond b (Some x) (find p xs) ≡ Some a → cond b 1 0 + count_by p xs ≤ 1 → (find p xs ≡ Some a → count_by p xs ≤ 1 → filter p xs ≡ a ∷ [])
        → cond b (x ∷ filter p xs) (filter p xs) ≡ a ∷ []
    by true e le h =
        let same : x ≡ a = cc in
        let none : count_by p xs ≡ 0 = omega arith in
        (λ i. same i ∷ none_kept p xs none i)
    by false e le h = h e (omega (arith, le))

-- the roles of the session, in whatever order, are those that are active
pub roles_listed : (tb : Table) (n : SessionId) (r : RoleId) → lists same_role (roles_of tb n) r ≡ list_any (is_active_in n r) tb.active
roles_listed tb n r = over n r tb.active
  where
    by : (n : SessionId) (r : RoleId) (a : Activation) (xs : List Activation) (b : Bool) → list_any (same_role r) (map (λ a. a.role) (filter (λ a. same_session a.session n) xs)) ≡ list_any (is_active_in n r) xs
        → list_any (same_role r) (map (λ a. a.role) (cond b (a ∷ filter (λ a. same_session a.session n) xs) (filter (λ a. same_session a.session n) xs))) ≡ ((b && same_role a.role r) || list_any (is_active_in n r) xs)
    by n r a xs true e = (λ i. eq_turned r.0 a.role.0 i || e i)
    by n r a xs false e = e

    over : (n : SessionId) (r : RoleId) (xs : List Activation) → list_any (same_role r) (map (λ a. a.role) (filter (λ a. same_session a.session n) xs)) ≡ list_any (is_active_in n r) xs
    over n r [] = refl
    over n r (a ∷ xs) = by n r a xs (same_session a.session n) (over n r xs)

pub role_at : (os : List Open) (n : SessionId) (at : ℕ) → StandsAt os n at → (r : RoleId) (b : Bool) → IfSome (slice_get os at) (λ o. b ≡ has o.roles r) → b ≡ role_in os n r
role_at os n at stands r b told =
    let (o, is, there) = standing os n at stands in
    subst (λ x. IfSome x (λ o. b ≡ has o.roles r)) there told ∙ sym (ap (λ x. elim x [ Some o ↦ has o.roles r | None ↦ false ]) is)

-- a cap that is reached decides, and without one the walk does, where the role is on
pub or_caps : (a b c d : Bool) → (c || d) ≡ true → true ≡ (a || b || c || d)
or_caps true b c d e = refl
or_caps false true c d e = refl
or_caps false false c d e = sym e

pub or_walk : (a b c d : Bool) → a ≡ false → (c || d) ≡ false → b ≡ (a || b || c || d)
or_walk true b c d e f = cc
or_walk false true c d e f = refl
or_walk false false c d e f = sym f

pub barred_is : {E : Type 0} (r : Result Bool E) (a c d w : Bool) → IfOk r (λ b. b ≡ w) → a ≡ false → (c || d) ≡ false → IfOk r (λ b. b ≡ (a || w || c || d))
barred_is (Ok b) a c d w told e f = told ∙ or_walk a w c d e f
barred_is (Err x) a c d w told e f = tt
