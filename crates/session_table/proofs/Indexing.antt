-- The roles of the sessions and the activations go on together.
use Rattle.std.proofs.Common.{◌≡◌, ℕ, zero, suc, ◌+◌, ◌≤◌, Bool, true, false, cond, not, ◌&&◌, ◌||◌, nat_eq, List, [], ◌∷◌, ◌++◌, map, filter, find, set, count_by, Option, Some, None, refl, sym, ap, subst, ◌∙◌, arith, add-zero}
use Rattle.std.specs.List.{slice_get, list_any}
use Rattle.std.specs.Ordering.{eq_by_cmp, is_eq}
use Rattle.std.specs.declared.cmp.Ordering.TheVariants.{Equal}
use Rattle.std.proofs.lemmas.Bool.{eqb-true, eq-eqb}
use Rattle.std.proofs.lemmas.List.Folds.{find_at, find-set, list_any-append}
use Rattle.std.proofs.lemmas.List.Sums.{sum_by-cons, sum_by-append}
use Rattle.std.proofs.lemmas.Map.Views.{any-filter_same}
use Rattle.gt_base.specs.declared.events.RoleId.{RoleId}
use Rattle.gt_base.specs.declared.events.SessionId.{SessionId}
use Rattle.gt_base.specs.Sets.{has, none, with_member, without}
use Rattle.gt_base.proofs.SetLaws.{has-none, has-with_member, has-those}
use Rattle.gtrbac_model.specs.Same.{same_role, same_session}
use Rattle.gtrbac_model.specs.Sessions.{Activation, is_active_in}
use Rattle.session_table.specs.declared.opened.Open.{Open}
use Rattle.session_table.specs.RoleSets.{role_cmp, RoleSet}
use Rattle.session_table.specs.Opened.{numbered, opened, still_open, role_in, in_session}
use Rattle.session_table.specs.Causes.{StandsAt}
use Rattle.session_table.proofs.Charging.{split}
use Rattle.walk_laws.proofs.Roles.{is_same_role}
use Rattle.session_table.proofs.RoleOrder.{role_cmp_total, tied_is_same}

-- numbers and roles

pub one_session : (m n : SessionId) → same_session m n ≡ true → m ≡ n
one_session m n h = let e : m.0 ≡ n.0 = eqb-true m.0 n.0 h in λ i. record { 0 = e i }

pub session_itself : (n : SessionId) → same_session n n ≡ true
session_itself n = eq-eqb n.0 n.0 refl

pub role_itself : (r : RoleId) → same_role r r ≡ true
role_itself r = eq-eqb r.0 r.0 refl

pub eq_turned : (a b : ℕ) → nat_eq a b ≡ nat_eq b a
eq_turned a b =
    split (nat_eq a b) (λ e. e ∙ sym (eq-eqb b a (sym (eqb-true a b e))))
    (λ e. e ∙ sym (split (nat_eq b a) (λ f. absurd (clash (eq-eqb a b (sym (eqb-true b a f))) e)) (λ f. f)))
  where
    clash : {x : Bool} → x ≡ true → x ≡ false → ⊥
    clash p q = let e : true ≡ false = sym p ∙ q in cc

pub both_true : (a b : Bool) → (a && b) ≡ true → (a ≡ true) × (b ≡ true)
both_true true b h = (refl, h)
both_true false b h = cc

none_true : (a b : Bool) → b ≡ false → (a && b) ≡ false
none_true true b h = h
none_true false b h = refl

-- the number of an open session
pub number_is : (n : SessionId) (o : Open) → numbered n o ≡ true → o.number ≡ n
number_is n o h = one_session o.number n (both_true o.is_open (same_session o.number n) h).1

-- finding

abbrev role_of : RoleId → Option Open → Bool
role_of r o = elim o [ Some o ↦ has o.roles r | None ↦ false ]

pub passes : {A : Type 0} (p : A → Bool) (xs : List A) (x : A) → find p xs ≡ Some x → p x ≡ true
passes p [] x e = cc
passes p (y ∷ ys) x e = by p y ys x (p y) refl e (passes p ys x)
  where
    by : {A : Type 0} (p : A → Bool) (y : A) (ys : List A) (x : A) (b : Bool) → p y ≡ b → cond b (Some y) (find p ys) ≡ Some x → (find p ys ≡ Some x → p x ≡ true) → p x ≡ true
    by p y ys x true is e rest = let same : y ≡ x = cc in subst (λ z. p z ≡ true) same is
    by p y ys x false is e rest = rest e

find_kept : {A : Type 0} (p q : A → Bool) (xs : List A) → ((x : A) → p x ≡ true → q x ≡ true) → find p (filter q xs) ≡ find p xs
find_kept p q [] h = refl
find_kept p q (x ∷ xs) h = by p q x xs (p x) (q x) refl (h x) (find_kept p q xs h)
  where
    by : {A : Type 0} (p q : A → Bool) (x : A) (xs : List A) (b c : Bool) → p x ≡ b → (p x ≡ true → c ≡ true) → find p (filter q xs) ≡ find p xs
        → find p (cond c (x ∷ filter q xs) (filter q xs)) ≡ cond b (Some x) (find p xs)
    by p q x xs true true is h e = ap (λ b. cond b (Some x) (find p (filter q xs))) is
    by p q x xs true false is h e = let f : false ≡ true = h is in cc
    by p q x xs false true is h e = ap (λ b. cond b (Some x) (find p (filter q xs))) is ∙ e
    by p q x xs false false is h e = e

none_left : {A : Type 0} (p : A → Bool) (xs : List A) → find p (filter (λ x. not (p x)) xs) ≡ None
none_left p [] = refl
none_left p (x ∷ xs) = by p x xs (p x) refl (none_left p xs)
  where
    by : {A : Type 0} (p : A → Bool) (x : A) (xs : List A) (b : Bool) → p x ≡ b → find p (filter (λ y. not (p y)) xs) ≡ None
        → find p (cond (not b) (x ∷ filter (λ y. not (p y)) xs) (filter (λ y. not (p y)) xs)) ≡ None
    by p x xs true is e = e
    by p x xs false is e = ap (λ b. cond b (Some x) (find p (filter (λ y. not (p y)) xs))) is ∙ e

find_other : {A : Type 0} (p : A → Bool) (xs : List A) (i : ℕ) (x y : A) → slice_get xs i ≡ Some x → p x ≡ false → p y ≡ false → find p (set xs i y) ≡ find p xs
find_other p [] i x y at off new = cc
find_other p (z ∷ zs) zero x y at off new =
    let same : z ≡ x = cc in
    ap (λ b. cond b (Some y) (find p zs)) new ∙ sym (ap (λ b. cond b (Some z) (find p zs)) (ap p same ∙ off))
find_other p (z ∷ zs) (suc i) x y at off new = ap (λ o. cond (p z) (Some z) o) (find_other p zs i x y at off new)

-- a new session has no role
pub pushed : (os : List Open) (o : Open) → o.roles ≡ none → (n : SessionId) (r : RoleId) → role_in (os ++ o ∷ []) n r ≡ role_in os n r
pushed [] o e n r = by (numbered n o)
  where
    by : (b : Bool) → role_of r (cond b (Some o) None) ≡ false
    by true = ap (λ s. has s r) e ∙ has-none role_cmp r
    by false = refl
pushed (x ∷ os) o e n r = by (numbered n x) (pushed os o e n r)
  where
    by : (b : Bool) → role_in (os ++ o ∷ []) n r ≡ role_in os n r → role_of r (cond b (Some x) (find (numbered n) (os ++ o ∷ []))) ≡ role_of r (cond b (Some x) (find (numbered n) os))
    by true h = refl
    by false h = h

-- sessions without one number
pub shut : (os : List Open) (m n : SessionId) (r : RoleId) → role_in (filter (λ o. not (numbered m o)) os) n r ≡ (not (same_session n m) && role_in os n r)
shut os m n r =
    split (same_session n m)
    (λ e.
    subst (λ k. role_in (filter (λ o. not (numbered k o)) os) n r ≡ false) (one_session n m e) (ap (role_of r) (none_left (numbered n) os))
    ∙ sym (ap (λ b. not b && role_in os n r) e))
    (λ e. ap (role_of r) (find_kept (numbered n) (λ o. not (numbered m o)) os (λ o h. other o h e)) ∙ sym (ap (λ b. not b && role_in os n r) e))
  where
    other : (o : Open) → numbered n o ≡ true → same_session n m ≡ false → not (numbered m o) ≡ true
    other o h e = ap not (none_true o.is_open (same_session o.number m) (ap (λ k. same_session k m) (number_is n o h) ∙ e))

pub shut_opened : (os : List Open) (m : SessionId) → map opened (filter (λ o. not (numbered m o)) (still_open os)) ≡ filter (λ o. not (same_session o.number m)) (map opened (still_open os))
shut_opened [] m = refl
shut_opened (x ∷ os) m = by x.is_open refl (shut_opened os m)
  where
    others : List Open
    others = filter (λ o. not (numbered m o)) (still_open os)

    on : (b : Bool) → map opened others ≡ filter (λ o. not (same_session o.number m)) (map opened (still_open os))
        → map opened (cond (not b) (x ∷ others) others)
        ≡ cond (not b) (opened x ∷ filter (λ o. not (same_session o.number m)) (map opened (still_open os))) (filter (λ o. not (same_session o.number m)) (map opened (still_open os)))
    on true e = e
    on false e = ap (λ z. opened x ∷ z) e

    by : (b : Bool) → x.is_open ≡ b → map opened others ≡ filter (λ o. not (same_session o.number m)) (map opened (still_open os))
        → map opened (filter (λ o. not (numbered m o)) (cond b (x ∷ still_open os) (still_open os)))
        ≡ filter (λ o. not (same_session o.number m)) (map opened (cond b (x ∷ still_open os) (still_open os)))
    by true is e = ap (λ b. map opened (cond (not (b && same_session x.number m)) (x ∷ others) others)) is ∙ on (same_session x.number m) e
    by false is e = e

pub kept_opened : (os : List Open) (i : ℕ) (o p : Open) → slice_get os i ≡ Some o → opened p ≡ opened o → map opened (set os i p) ≡ map opened os
kept_opened [] i o p at e = cc
kept_opened (x ∷ os) zero o p at e = let same : x ≡ o = cc in ap (λ z. z ∷ map opened os) (e ∙ ap opened (sym same))
kept_opened (x ∷ os) (suc i) o p at e = ap (λ z. opened x ∷ z) (kept_opened os i o p at e)

pub kept_open : (os : List Open) (i : ℕ) (o p : Open) → slice_get os i ≡ Some o → opened p ≡ opened o → p.is_open ≡ o.is_open → map opened (still_open (set os i p)) ≡ map opened (still_open os)
kept_open [] i o p at e f = cc
kept_open (x ∷ os) zero o p at e f =
    let same : x ≡ o = cc in
    (λ i. map opened (cond ((f ∙ ap (λ (y : Open). y.is_open) (sym same)) i) (p ∷ still_open os) (still_open os))) ∙ by x.is_open (e ∙ ap opened (sym same))
  where
    by : (b : Bool) → opened p ≡ opened x → map opened (cond b (p ∷ still_open os) (still_open os)) ≡ map opened (cond b (x ∷ still_open os) (still_open os))
    by true e = ap (λ z. z ∷ map opened (still_open os)) e
    by false e = refl
kept_open (x ∷ os) (suc i) o p at e f = by x.is_open (kept_open os i o p at e f)
  where
    by : (b : Bool) → map opened (still_open (set os i p)) ≡ map opened (still_open os) → map opened (cond b (x ∷ still_open (set os i p)) (still_open (set os i p))) ≡ map opened (cond b (x ∷ still_open os) (still_open os))
    by true e = ap (λ z. opened x ∷ z) e
    by false e = e

-- gaps say nothing of roles
pub open_role : (os : List Open) (n : SessionId) (r : RoleId) → role_in (still_open os) n r ≡ role_in os n r
open_role os n r = ap (role_of r) (find_kept (numbered n) (λ o. o.is_open) os (λ o h. (both_true o.is_open (same_session o.number n) h).0))

pub open_again : (os : List Open) → still_open (still_open os) ≡ still_open os
open_again [] = refl
open_again (o ∷ os) = by o.is_open refl (open_again os)
  where
    by : (b : Bool) → o.is_open ≡ b → still_open (still_open os) ≡ still_open os → still_open (cond b (o ∷ still_open os) (still_open os)) ≡ cond b (o ∷ still_open os) (still_open os)
    by true is e = ap (λ b. cond b (o ∷ still_open (still_open os)) (still_open (still_open os))) is ∙ ap (λ os. o ∷ os) e
    by false is e = e

module _ (os : List Open) (m : SessionId) (at : ℕ) (h : StandsAt os m at) (o : Open) (there : slice_get os at ≡ Some o) where
  found : find (numbered m) os ≡ Some o
  found = find_at (numbered m) os ∙ ap (slice_get os) (sym h.first) ∙ there

  is_numbered : numbered m o ≡ true
  is_numbered = passes (numbered m) os o found

  written : (s : RoleSet) (n : SessionId) (r : RoleId) → role_in (set os at (record o { roles = s })) n r ≡ cond (same_session m n) (has s r) (role_in os n r)
  written s n r =
      split (same_session m n)
      (λ e.
      ap (role_of r) (subst (λ k. find (numbered k) (set os at (record o { roles = s })) ≡ Some (record o { roles = s })) (one_session m n e)
      (find-set (numbered m) os at (record o { roles = s }) h.first h.inside is_numbered))
      ∙ sym (ap (λ b. cond b (has s r) (role_in os n r)) e))
      (λ e.
      let off : numbered n o ≡ false = none_true o.is_open (same_session o.number n) (ap (λ k. same_session k n) (number_is m o is_numbered) ∙ e) in
      ap (role_of r) (find_other (numbered n) os at o (record o { roles = s }) there off off) ∙ sym (ap (λ b. cond b (has s r) (role_in os n r)) e))

  own : (n : SessionId) (r : RoleId) → same_session m n ≡ true → role_in os n r ≡ has o.roles r
  own n r e = ap (role_of r) (subst (λ k. find (numbered k) os ≡ Some o) (one_session m n e) found)

  pub added : (q : RoleId) (n : SessionId) (r : RoleId)
      → role_in (set os at (record o { roles = with_member o.roles q })) n r ≡ (role_in os n r || (same_session m n && same_role q r))
  added q n r = written (with_member o.roles q) n r ∙ split (same_session m n) on off
    where
      or_turned : (a b : Bool) → (a || b) ≡ (b || a)
      or_turned true true = refl
      or_turned true false = refl
      or_turned false true = refl
      or_turned false false = refl

      or_none : (a : Bool) → a ≡ (a || false)
      or_none true = refl
      or_none false = refl

      on : same_session m n ≡ true → cond (same_session m n) (has (with_member o.roles q) r) (role_in os n r) ≡ (role_in os n r || (same_session m n && same_role q r))
      on e =
          ap (λ b. cond b (has (with_member o.roles q) r) (role_in os n r)) e
          ∙ has-with_member role_cmp_total o.roles q r
          ∙ or_turned (eq_by_cmp role_cmp r q) (has o.roles r)
          ∙ ap (λ b. has o.roles r || b) (tied_is_same r q ∙ eq_turned r.0 q.0)
          ∙ (λ i. sym (own n r e) i || (sym e i && same_role q r))

      off : same_session m n ≡ false → cond (same_session m n) (has (with_member o.roles q) r) (role_in os n r) ≡ (role_in os n r || (same_session m n && same_role q r))
      off e =
          ap (λ b. cond b (has (with_member o.roles q) r) (role_in os n r)) e ∙ or_none (role_in os n r)
          ∙ ap (λ b. role_in os n r || (b && same_role q r)) (sym e)

  pub removed : (q : RoleId) (n : SessionId) (r : RoleId)
      → role_in (set os at (record o { roles = without o.roles q })) n r ≡ (not (same_session m n && same_role q r) && role_in os n r)
  removed q n r = written (without o.roles q) n r ∙ split (same_session m n) on off
    where
      and_turned : (a b : Bool) → (a && b) ≡ (b && a)
      and_turned true true = refl
      and_turned true false = refl
      and_turned false true = refl
      and_turned false false = refl

      alike : (y : RoleId) → role_cmp r y ≡ Equal → not (eq_by_cmp role_cmp q y) ≡ not (eq_by_cmp role_cmp q r)
      alike y e = ap (λ z. not (eq_by_cmp role_cmp q z)) (sym (is_same_role r y (sym (tied_is_same r y) ∙ ap is_eq e)))

      on : same_session m n ≡ true → cond (same_session m n) (has (without o.roles q) r) (role_in os n r) ≡ (not (same_session m n && same_role q r) && role_in os n r)
      on e =
          ap (λ b. cond b (has (without o.roles q) r) (role_in os n r)) e
          ∙ has-those role_cmp_total o.roles (λ x. not (eq_by_cmp role_cmp q x)) r alike
          ∙ and_turned (has o.roles r) (not (eq_by_cmp role_cmp q r))
          ∙ ap (λ b. not b && has o.roles r) (tied_is_same q r)
          ∙ (λ i. not (sym e i && same_role q r) && sym (own n r e) i)

      off : same_session m n ≡ false → cond (same_session m n) (has (without o.roles q) r) (role_in os n r) ≡ (not (same_session m n && same_role q r) && role_in os n r)
      off e =
          ap (λ b. cond b (has (without o.roles q) r) (role_in os n r)) e
          ∙ ap (λ b. not (b && same_role q r) && role_in os n r) (sym e)

-- the activations

is_of_session : (n : SessionId) (r : RoleId) (a : Activation) → is_active_in n r a ≡ true → a.session ≡ n
is_of_session n r a h = one_session a.session n (both_true (same_session a.session n) (same_role a.role r) h).0

pub any_shut : (m n : SessionId) (r : RoleId) (xs : List Activation) → list_any (is_active_in n r) (filter (λ a. not (in_session m a)) xs) ≡ (not (same_session n m) && list_any (is_active_in n r) xs)
any_shut m n r xs = any-filter_same (is_active_in n r) (λ a. not (in_session m a)) (not (same_session n m)) (λ a h. ap (λ k. not (same_session k m)) (is_of_session n r a h)) xs

pub any_ended : (m n : SessionId) (q r : RoleId) (xs : List Activation)
    → list_any (is_active_in n r) (filter (λ a. not (is_active_in m q a)) xs) ≡ (not (same_session m n && same_role q r) && list_any (is_active_in n r) xs)
any_ended m n q r xs =
    any-filter_same (is_active_in n r) (λ a. not (is_active_in m q a)) (not (same_session m n && same_role q r))
    (λ a h. (λ i. not (same_session (is_of_session n r a h i) m && nat_eq (eqb-true a.role.0 r.0 (both_true (same_session a.session n) (same_role a.role r) h).1 i) q.0))
    ∙ (λ i. not (eq_turned n.0 m.0 i && eq_turned r.0 q.0 i))) xs

pub any_added : (n : SessionId) (r : RoleId) (xs : List Activation) (a : Activation) → list_any (is_active_in n r) (xs ++ a ∷ []) ≡ (list_any (is_active_in n r) xs || is_active_in n r a)
any_added n r xs a = list_any-append (is_active_in n r) xs (a ∷ []) ∙ ap (λ b. list_any (is_active_in n r) xs || b) (or_none (is_active_in n r a))
  where
    or_none : (b : Bool) → (b || false) ≡ b
    or_none true = refl
    or_none false = refl

-- counting

pub count_cons : {A : Type 0} (p : A → Bool) (x : A) (xs : List A) → count_by p (x ∷ xs) ≡ cond (p x) 1 0 + count_by p xs
count_cons p x xs = sum_by-cons (λ y. cond (p y) 1 0) x xs

pub count_kept : {A : Type 0} (p q : A → Bool) (xs : List A) → count_by p (filter q xs) ≤ count_by p xs
count_kept p q [] = omega arith
count_kept p q (x ∷ xs) = rw (count_cons p x xs) (by (q x) (count_kept p q xs))
  where
    by : (b : Bool) → count_by p (filter q xs) ≤ count_by p xs → count_by p (cond b (x ∷ filter q xs) (filter q xs)) ≤ cond (p x) 1 0 + count_by p xs
    by true h = rw (count_cons p x (filter q xs)) (omega (arith, h))
    by false h = omega (arith, h)

pub none_counted : {A : Type 0} (p : A → Bool) (xs : List A) → list_any p xs ≡ false → count_by p xs ≡ 0
none_counted p [] e = refl
none_counted p (x ∷ xs) e = count_cons p x xs ∙ by (p x) e (none_counted p xs)
  where
    by : (b : Bool) → (b || list_any p xs) ≡ false → (list_any p xs ≡ false → count_by p xs ≡ 0) → cond b 1 0 + count_by p xs ≡ 0
    by true e h = cc
    by false e h = let z : count_by p xs ≡ 0 = h e in omega arith

pub count_added : {A : Type 0} (p : A → Bool) (xs : List A) (x : A) → count_by p (xs ++ x ∷ []) ≡ count_by p xs + cond (p x) 1 0
count_added p xs x = sum_by-append (λ y. cond (p y) 1 0) xs (x ∷ []) ∙ ap (λ n. count_by p xs + n) (count_cons p x [] ∙ add-zero (cond (p x) 1 0))

pub once_more : (m n : SessionId) (q r : RoleId) (xs : List Activation) (a : Activation) → a.session ≡ m → a.role ≡ q
    → list_any (is_active_in m q) xs ≡ false → count_by (is_active_in n r) xs ≤ 1 → count_by (is_active_in n r) (xs ++ a ∷ []) ≤ 1
once_more m n q r xs a s k fresh le =
    rw (count_added (is_active_in n r) xs a)
    (split (is_active_in n r a)
    (λ e.
    let parts = both_true (same_session a.session n) (same_role a.role r) e in
    let new : list_any (is_active_in n r) xs ≡ false = (λ i. list_any (is_active_in (sym (one_session a.session n parts.0) i) r) xs)
    ∙ (λ i. list_any (λ b. same_session b.session (s i) && nat_eq b.role.0 (sym (eqb-true a.role.0 r.0 parts.1) i)) xs)
    ∙ (λ i. list_any (λ b. same_session b.session m && nat_eq b.role.0 (k i).0) xs) ∙ fresh in
    let z : count_by (is_active_in n r) xs ≡ 0 = none_counted (is_active_in n r) xs new in
    subst (λ b. count_by (is_active_in n r) xs + cond b 1 0 ≤ 1) (sym e) (omega arith))
    (λ e. subst (λ b. count_by (is_active_in n r) xs + cond b 1 0 ≤ 1) (sym e) (omega (arith, le))))

pub count_set : {A : Type 0} (p : A → Bool) (xs : List A) (i : ℕ) (x y : A) → slice_get xs i ≡ Some x → count_by p xs + cond (p y) 1 0 ≡ count_by p (set xs i y) + cond (p x) 1 0
count_set p [] i x y at = cc
count_set p (z ∷ zs) zero x y at =
    let same : z ≡ x = cc in
    let a = count_cons p z zs in
    let b = count_cons p y zs in
    let c : ◌≡◌ {A = ℕ} (cond (p z) 1 0) (cond (p x) 1 0) = ap (λ v. cond (p v) 1 0) same in
    omega (arith, a, b, c)
count_set p (z ∷ zs) (suc i) x y at =
    let a = count_cons p z zs in
    let b = count_cons p z (set zs i y) in
    let c = count_set p zs i x y at in
    omega (arith, a, b, c)

pub count_again : {A : Type 0} (p : A → Bool) (xs : List A) → count_by p xs ≤ count_by p (filter p xs)
count_again p [] = omega arith
count_again p (x ∷ xs) = rw (count_cons p x xs) (by (p x) refl (count_again p xs))
  where
    by : (b : Bool) → p x ≡ b → count_by p xs ≤ count_by p (filter p xs) → cond b 1 0 + count_by p xs ≤ count_by p (cond b (x ∷ filter p xs) (filter p xs))
    by true e h = rw (count_cons p x (filter p xs)) (let c : ◌≡◌ {A = ℕ} (cond (p x) 1 0) 1 = ap (λ b. cond b 1 0) e in omega (arith, c, h))
    by false e h = omega (arith, h)
