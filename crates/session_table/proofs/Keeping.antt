-- What every table keeps stays.
use Rattle.std.proofs.Common.{◌≡◌, ℕ, zero, suc, ◌+◌, ◌<◌, ◌≤◌, Bool, true, false, cond, not, ◌&&◌, ◌||◌, List, [], ◌∷◌, ◌++◌, length, map, filter, find, set, count_by, Option, Some, None, refl, sym, ap, subst, ◌∙◌, arith}
use Rattle.std.specs.List.{slice_get, list_any, sum_by}
use Rattle.std.proofs.lemmas.List.{length-map}
use Rattle.std.proofs.lemmas.List.Sums.{sum_by-cons, length-filter}
use Rattle.gt_base.specs.declared.events.RoleId.{RoleId}
use Rattle.gt_base.specs.declared.events.UserId.{UserId}
use Rattle.gt_base.specs.declared.events.SessionId.{SessionId}
use Rattle.gt_base.specs.Sets.{has, none, with_member, without}
use Rattle.gtrbac_model.specs.Same.{same_role, same_session, same_user}
use Rattle.gtrbac_model.specs.Graph.{item_at}
use Rattle.gtrbac_model.specs.Sessions.{Activation, is_active_in, is_of}
use Rattle.session_table.specs.declared.opened.Open.{Open}
use Rattle.session_table.specs.Charges.{Charged}
use Rattle.session_table.specs.Opened.{numbered, opened, still_open, role_in, in_session}
use Rattle.session_table.specs.Causes.{StandsAt}
use Rattle.session_table.specs.Kept.{AreKeptRows}
use Rattle.session_table.proofs.Charging.{split}
use Rattle.session_table.proofs.Indexing.{pushed, shut, added, removed, any_shut, any_ended, any_added, count_cons, count_kept, count_added, count_set, count_again, open_role, number_is, once_more, session_itself, role_itself}

abbrev is_open : Open → Bool
is_open o = o.is_open

-- what is open stays so with other roles
pub as_many_open : (os : List Open) (i : ℕ) (o p : Open) → slice_get os i ≡ Some o → p.is_open ≡ o.is_open → count_by is_open (set os i p) ≡ count_by is_open os
as_many_open os i o p at e =
    let a = count_set is_open os i o p at in
    let b : ◌≡◌ {A = ℕ} (cond p.is_open 1 0) (cond o.is_open 1 0) = ap (λ b. cond b 1 0) e in
    omega (arith, a, b)

module _ (os : List Open) (active : List Activation) (charges : Charged) (to : Option ℕ) (h : AreKeptRows os active charges to) where
  pub begun : (o : Open) → o.roles ≡ none → count_by is_open os < 10_000 → AreKeptRows (os ++ o ∷ []) active charges to
  begun o e few = record {
    few = let n = count_added is_open os o in let one = at_most o.is_open in omega (arith, n, one);
    index = λ n r. pushed os o e n r ∙ h.index n r;
    once = h.once;
    bounded = h.bounded;
  }
    where
      at_most : (b : Bool) → cond b 1 0 ≤ 1
      at_most true = omega arith
      at_most false = omega arith

  pub without_gaps : AreKeptRows (still_open os) active charges to
  without_gaps = record {
    few = let n = count_kept is_open is_open os in omega (arith, n, h.few);
    index = λ n r. open_role os n r ∙ h.index n r;
    once = h.once;
    bounded = h.bounded;
  }

  pub finished : (m : SessionId) → AreKeptRows (filter (λ o. not (numbered m o)) os) (filter (λ a. not (in_session m a)) active) charges to
  finished m = record {
    few = let n = count_kept is_open (λ o. not (numbered m o)) os in omega (arith, n, h.few);
    index = λ n r. shut os m n r ∙ ap (λ b. not (same_session n m) && b) (h.index n r) ∙ sym (any_shut m n r active);
    once = λ n r. let le = count_kept (is_active_in n r) (λ a. not (in_session m a)) active in omega (arith, le, h.once n r);
    bounded = h.bounded;
  }

  module _ (m : SessionId) (at : ℕ) (stands : StandsAt os m at) (o : Open) (there : slice_get os at ≡ Some o) (q : RoleId) where
    pub ended : AreKeptRows (set os at (record o { roles = without o.roles q })) (filter (λ a. not (is_active_in m q a)) active) charges to
    ended = record {
      few = subst (λ n. n ≤ 10_000) (sym (as_many_open os at o (record o { roles = without o.roles q }) there refl)) h.few;
      index = λ n r. removed os m at stands o there q n r ∙ ap (λ b. not (same_session m n && same_role q r) && b) (h.index n r) ∙ sym (any_ended m n q r active);
      once = λ n r. let le = count_kept (is_active_in n r) (λ a. not (is_active_in m q a)) active in omega (arith, le, h.once n r);
      bounded = h.bounded;
    }

    pub entered : (u : UserId) (t : ℕ) → list_any (is_active_in m q) active ≡ false
        → AreKeptRows (set os at (record o { roles = with_member o.roles q })) (active ++ record { session = m; user = u; role = q; begun = t } ∷ []) charges to
    entered u t fresh =
        let a : Activation = record { session = m; user = u; role = q; begun = t } in
        record {
          few = subst (λ n. n ≤ 10_000) (sym (as_many_open os at o (record o { roles = with_member o.roles q }) there refl)) h.few;
          index = λ n r. added os m at stands o there q n r ∙ ap (λ b. b || (same_session m n && same_role q r)) (h.index n r) ∙ sym (any_added n r active a);
          once = λ n r. once_more m n q r active a refl refl fresh (h.once n r);
          bounded = h.bounded;
        }

-- gaps among the sessions say nothing
pub with_gaps : (os : List Open) (active : List Activation) (charges : Charged) (to : Option ℕ) → AreKeptRows (still_open os) active charges to → AreKeptRows os active charges to
with_gaps os active charges to h = record {
  few = let n = count_again is_open os in omega (arith, n, h.few);
  index = λ n r. sym (open_role os n r) ∙ h.index n r;
  once = h.once;
  bounded = h.bounded;
}

pub sum_open : (os ps : List Open) → still_open os ≡ still_open ps → count_by is_open os ≡ count_by is_open ps
sum_open os ps e = sym (length-filter is_open os) ∙ ap length e ∙ length-filter is_open ps

pub opened_counted : (os : List Open) → length (map opened (still_open os)) ≡ count_by is_open os
opened_counted os = length-map (still_open os) opened ∙ length-filter is_open os

-- no more activations of a role than sessions

pub sum_plus : {A : Type 0} (f g : A → ℕ) (xs : List A) → sum_by (λ x. f x + g x) xs ≡ sum_by f xs + sum_by g xs
sum_plus f g [] = refl
sum_plus f g (x ∷ xs) =
    let a = sum_by-cons (λ x. f x + g x) x xs in
    let b = sum_by-cons f x xs in
    let c = sum_by-cons g x xs in
    let d = sum_plus f g xs in
    omega (arith, a, b, c, d)

pub sum_same : {A : Type 0} (f g : A → ℕ) (xs : List A) → ((x : A) → f x ≡ g x) → sum_by f xs ≡ sum_by g xs
sum_same f g xs e = ap (λ k. sum_by k xs) (λ i x. e x i)

pub at_most_one : {A : Type 0} (f : A → ℕ) (xs : List A) → ((x : A) → f x ≤ 1) → sum_by f xs ≤ length xs
at_most_one f [] h = omega arith
at_most_one f (x ∷ xs) h =
    let a = sum_by-cons f x xs in
    let b = at_most_one f xs h in
    omega (arith, a, b, h x)

pub some_counted : {A : Type 0} (p : A → Bool) (xs : List A) → list_any p xs ≡ true → 1 ≤ count_by p xs
some_counted p [] e = cc
some_counted p (x ∷ xs) e = rw (count_cons p x xs) (by (p x) e (some_counted p xs))
  where
    by : (b : Bool) → (b || list_any p xs) ≡ true → (list_any p xs ≡ true → 1 ≤ count_by p xs) → 1 ≤ cond b 1 0 + count_by p xs
    by true e h = omega arith
    by false e h = let le : 1 ≤ count_by p xs = h e in omega arith

module _ (os : List Open) (r : RoleId) where
  abbrev IsCovered : Activation → Type 0
  IsCovered a = list_any (λ o. same_session a.session o.number) os ≡ true

  one_covered : (a : Activation) → IsCovered a → cond (same_role a.role r) 1 0 ≤ sum_by (λ o. cond (is_active_in o.number r a) 1 0) os
  one_covered a h = split (same_role a.role r)
      (λ e. subst (λ b. cond b 1 0 ≤ sum_by (λ o. cond (same_session a.session o.number && b) 1 0) os) (sym e)
      (some_counted (λ o. same_session a.session o.number && true) os (ap (λ p. list_any p os) (λ i o. and_true (same_session a.session o.number) i) ∙ h)))
      (λ e. subst (λ b. cond b 1 0 ≤ sum_by (λ o. cond (same_session a.session o.number && b) 1 0) os) (sym e) (omega arith))
    where
      and_true : (b : Bool) → (b && true) ≡ b
      and_true true = refl
      and_true false = refl

  covers : (xs : List Activation) → ((i : ℕ) (a : Activation) → item_at xs i ≡ Some a → IsCovered a)
      → count_by (λ a. same_role a.role r) xs ≤ sum_by (λ o. count_by (is_active_in o.number r) xs) os
  covers [] h = omega arith
  covers (a ∷ xs) h =
      let b = count_cons (λ a. same_role a.role r) a xs in
      let c : sum_by (λ o. count_by (is_active_in o.number r) (a ∷ xs)) os ≡ sum_by (λ o. cond (is_active_in o.number r a) 1 0 + count_by (is_active_in o.number r) xs) os =
      sum_same _ _ os (λ o. count_cons (is_active_in o.number r) a xs) in
      let d = sum_plus (λ o. cond (is_active_in o.number r a) 1 0) (λ o. count_by (is_active_in o.number r) xs) os in
      let e = one_covered a (h 0 a refl) in
      let f = covers xs (λ i. h (suc i)) in
      omega (arith, b, c, d, e, f)

or_true : (b : Bool) {c : Bool} → c ≡ true → (b || c) ≡ true
or_true true e = refl
or_true false e = e

pub listed : (xs : List Activation) (i : ℕ) (a : Activation) → item_at xs i ≡ Some a → list_any (is_active_in a.session a.role) xs ≡ true
listed [] i a is = cc
listed (x ∷ xs) zero a is =
    let same : x ≡ a = cc in
    (λ i. (same_session (same i).session a.session && same_role (same i).role a.role) || list_any (is_active_in a.session a.role) xs)
    ∙ (λ i. (session_itself a.session i && role_itself a.role i) || list_any (is_active_in a.session a.role) xs)
listed (x ∷ xs) (suc i) a is = or_true (is_active_in a.session a.role x) (listed xs i a is)

role_there : (os : List Open) (n : SessionId) (r : RoleId) → role_in os n r ≡ true → list_any (λ o. same_session n o.number) os ≡ true
role_there [] n r e = cc
role_there (o ∷ os) n r e = by o os n r (numbered n o) refl e (role_there os n r)
  where
    by : (o : Open) (os : List Open) (n : SessionId) (r : RoleId) (b : Bool) → numbered n o ≡ b → (elim (cond b (Some o) (find (numbered n) os)) [ Some o ↦ has o.roles r | None ↦ false ]) ≡ true
        → (role_in os n r ≡ true → list_any (λ o. same_session n o.number) os ≡ true) → (same_session n o.number || list_any (λ o. same_session n o.number) os) ≡ true
    by o os n r true is e h = ap (λ b. b || list_any (λ o. same_session n o.number) os) (ap (same_session n) (number_is n o is) ∙ session_itself n)
    by o os n r false is e h = or_true (same_session n o.number) (h e)

pub few_of_role : (os : List Open) (active : List Activation) (charges : Charged) (to : Option ℕ) → AreKeptRows os active charges to
    → (r : RoleId) → count_by (λ a. same_role a.role r) active ≤ 10_000
few_of_role os active charges to h r =
    let a = covers (still_open os) r active (λ i a is. role_there (still_open os) a.session a.role (open_role os a.session a.role ∙ h.index a.session a.role ∙ listed active i a is)) in
    let b = at_most_one (λ o. count_by (is_active_in o.number r) active) (still_open os) (λ o. h.once o.number r) in
    let c = length-filter is_open os in
    omega (arith, a, b, c, h.few)

less_of_both : (p q : Activation → Bool) (xs : List Activation) → count_by (λ a. p a && q a) xs ≤ count_by q xs
less_of_both p q [] = omega arith
less_of_both p q (x ∷ xs) =
    let a = count_cons (λ a. p a && q a) x xs in
    let b = count_cons q x xs in
    let c = less_of_both p q xs in
    let d = less (p x) (q x) in
    omega (arith, a, b, c, d)
  where
    less : (b c : Bool) → cond (b && c) 1 0 ≤ cond c 1 0
    less true c = omega arith
    less false true = omega arith
    less false false = omega arith

pub few_of : (os : List Open) (active : List Activation) (charges : Charged) (to : Option ℕ) → AreKeptRows os active charges to → (u : UserId) (r : RoleId) → count_by (is_of u r) active ≤ 10_000
few_of os active charges to h u r =
    let a = less_of_both (λ a. same_user a.user u) (λ a. same_role a.role r) active in
    let b = few_of_role os active charges to h r in
    omega (arith, a, b)
