-- The end of a session: its activations are no more than its roles, and where they are taken out the others stay.
use Rattle.std.proofs.Common.{◌≡◌, ℕ, zero, suc, ◌+◌, ◌-◌, ◌≤◌, Bool, true, false, cond, not, ◌&&◌, List, [], ◌∷◌, ◌++◌, length, take, drop, map, filter, find, count_by, Option, Some, None, IfSome, refl, sym, ap, subst, ◌∙◌, append_assoc, arith}
use Rattle.std.specs.List.{slice_get, list_any, remove, sum_by}
use Rattle.std.proofs.lemmas.List.{take-append-drop, append-nil}
use Rattle.std.proofs.lemmas.List.Elements.{filter-append}
use Rattle.std.proofs.lemmas.List.Sums.{sum_by-take-drop}
use Rattle.gt_base.specs.declared.events.RoleId.{RoleId}
use Rattle.gt_base.specs.declared.events.SessionId.{SessionId}
use Rattle.gt_base.specs.Sets.{has, members}
use Rattle.gtrbac_model.specs.Same.{same_role}
use Rattle.gtrbac_model.specs.Graph.{item_at}
use Rattle.gtrbac_model.specs.Sessions.{Activation, is_active_in}
use Rattle.session_table.specs.declared.opened.Open.{Open}
use Rattle.session_table.specs.Charges.{Charged}
use Rattle.session_table.specs.Opened.{numbered, in_session}
use Rattle.session_table.specs.Causes.{StandsAt}
use Rattle.session_table.specs.Kept.{AreKeptRows}
use Rattle.session_table.proofs.Charging.{split}
use Rattle.session_table.proofs.Indexing.{count_cons, one_session}
use Rattle.session_table.proofs.Keeping.{sum_plus, sum_same, at_most_one, some_counted, listed}
use Rattle.session_table.proofs.Telling.{listed_at}

-- what stands in a session is counted by its roles
module _ (n : SessionId) (roles : List RoleId) where
  abbrev IsListed : Activation → Type 0
  IsListed a = in_session n a ≡ true → list_any (same_role a.role) roles ≡ true

  one_listed : (a : Activation) → IsListed a → cond (in_session n a) 1 0 ≤ sum_by (λ r. cond (is_active_in n r a) 1 0) roles
  one_listed a h = split (in_session n a)
      (λ e. subst (λ b. cond b 1 0 ≤ sum_by (λ r. cond (is_active_in n r a) 1 0) roles) (sym e)
      (some_counted (λ r. is_active_in n r a) roles (ap (λ b. list_any (λ r. b && same_role a.role r) roles) e ∙ h e)))
      (λ e. subst (λ b. cond b 1 0 ≤ sum_by (λ r. cond (is_active_in n r a) 1 0) roles) (sym e) (omega arith))

  by_roles : (xs : List Activation) → ((i : ℕ) (a : Activation) → item_at xs i ≡ Some a → IsListed a)
      → count_by (in_session n) xs ≤ sum_by (λ r. count_by (is_active_in n r) xs) roles
  by_roles [] h = omega arith
  by_roles (a ∷ xs) h =
      let b = count_cons (in_session n) a xs in
      let c : sum_by (λ r. count_by (is_active_in n r) (a ∷ xs)) roles ≡ sum_by (λ r. cond (is_active_in n r a) 1 0 + count_by (is_active_in n r) xs) roles =
      sum_same _ _ roles (λ r. count_cons (is_active_in n r) a xs) in
      let d = sum_plus (λ r. cond (is_active_in n r a) 1 0) (λ r. count_by (is_active_in n r) xs) roles in
      let e = one_listed a (h 0 a refl) in
      let f = by_roles xs (λ i. h (suc i)) in
      omega (arith, b, c, d, e, f)

module _ (os : List Open) (active : List Activation) (charges : Charged) (to : Option ℕ) (h : AreKeptRows os active charges to) (n : SessionId) where
  there : (i : ℕ) (a : Activation) → item_at active i ≡ Some a → in_session n a ≡ true → list_any (is_active_in n a.role) active ≡ true
  there i a is on = ap (λ m. list_any (is_active_in m a.role) active) (sym (one_session a.session n on)) ∙ listed active i a is

  pub few_in : (at : ℕ) → StandsAt os n at → (roles : List RoleId) → IfSome (slice_get os at) (λ o. roles ≡ members o.roles) → count_by (in_session n) active ≤ length roles
  few_in at stands roles told =
      let a = by_roles n roles active (λ i a is on. listed_at os active charges to h n at stands roles told a.role ∙ there i a is on) in
      let b = at_most_one (λ r. count_by (is_active_in n r) active) roles (λ r. h.once n r) in
      omega (arith, a, b)

  pub none_in : find (numbered n) os ≡ None → count_by (in_session n) active ≤ 0
  none_in gone = by_roles n [] active (λ i a is on. (ap (λ x. elim x [ Some o ↦ has o.roles a.role | None ↦ false ]) (sym gone)) ∙ h.index n a.role ∙ there i a is on)

-- one is taken out of a row
removed_take : {A : Type 0} (xs : List A) (i : ℕ) → take i (remove xs i) ≡ take i xs
removed_take [] zero = refl
removed_take [] (suc i) = refl
removed_take (x ∷ xs) zero = refl
removed_take (x ∷ xs) (suc i) = ap (λ ys. x ∷ ys) (removed_take xs i)

removed_drop : {A : Type 0} (xs : List A) (i : ℕ) (x : A) → slice_get xs i ≡ Some x → drop i xs ≡ x ∷ drop i (remove xs i)
removed_drop [] i x at = cc
removed_drop (y ∷ ys) zero x at = let same : y ≡ x = cc in ap (λ z. z ∷ ys) same
removed_drop (y ∷ ys) (suc i) x at = removed_drop ys i x at

drop_next : {A : Type 0} (xs : List A) (i : ℕ) (x : A) → slice_get xs i ≡ Some x → drop i xs ≡ x ∷ drop (suc i) xs
drop_next [] i x at = cc
drop_next (y ∷ ys) zero x at = let same : y ≡ x = cc in ap (λ z. z ∷ ys) same
drop_next (y ∷ ys) (suc i) x at = drop_next ys i x at

take_next : {A : Type 0} (xs : List A) (i : ℕ) (x : A) → slice_get xs i ≡ Some x → take (suc i) xs ≡ take i xs ++ x ∷ []
take_next [] i x at = cc
take_next (y ∷ ys) zero x at = let same : y ≡ x = cc in ap (λ z. z ∷ []) same
take_next (y ∷ ys) (suc i) x at = ap (λ zs. y ∷ zs) (take_next ys i x at)

none_pass : {A : Type 0} (p : A → Bool) (xs : List A) → count_by p xs ≤ 0 → (xs ≡ filter (λ x. not (p x)) xs) × (filter p xs ≡ [])
none_pass p [] h = (refl, refl)
none_pass p (x ∷ xs) h = by (p x) refl (none_pass p xs)
  where
    by : (b : Bool) → p x ≡ b → (count_by p xs ≤ 0 → (xs ≡ filter (λ x. not (p x)) xs) × (filter p xs ≡ []))
        → ((x ∷ xs) ≡ cond (not b) (x ∷ filter (λ x. not (p x)) xs) (filter (λ x. not (p x)) xs)) × (cond b (x ∷ filter p xs) (filter p xs) ≡ [])
    by true e rest = let c = count_cons p x xs in let d : ◌≡◌ {A = ℕ} (cond (p x) 1 0) 1 = ap (λ b. cond b 1 0) e in absurd (omega (arith, c, d, h))
    by false e rest = let c = count_cons p x xs in let r = rest (omega (arith, c, h)) in (ap (λ ys. x ∷ ys) r.0, r.1)

-- of a row those before a place are looked at, and those of them that pass are taken out
pub record Ends {A B : Type 0} (p : A → Bool) (tell : A → B) (old now : List A) (before told : List B) (at left : ℕ) : Type 0 where
  pub front : filter (λ x. not (p x)) old ≡ take at now ++ filter (λ x. not (p x)) (drop at now)
  pub says : told ++ map tell (filter p (drop at now)) ≡ before ++ map tell (filter p old)
  pub few : count_by p (drop at now) ≤ left

module _ {A B : Type 0} (p : A → Bool) (tell : A → B) (old now : List A) (before told : List B) (at left : ℕ) where
  abbrev Left : ℕ → List A → Type 0
  Left n xs = count_by p xs ≤ n

  head_counted : (x : A) (xs : List A) → drop at now ≡ x ∷ xs → p x ≡ true → Left left (drop at now) → count_by p xs + 1 ≤ left
  head_counted x xs e on h =
      let c : count_by p (x ∷ xs) ≤ left = subst (Left left) e h in
      let d = count_cons p x xs in
      let f : ◌≡◌ {A = ℕ} (cond (p x) 1 0) 1 = ap (λ b. cond b 1 0) on in
      omega (arith, c, d, f)

  head_passed : (x : A) (xs : List A) → drop at now ≡ x ∷ xs → p x ≡ false → Left left (drop at now) → Left left xs
  head_passed x xs e off h =
      let c : count_by p (x ∷ xs) ≤ left = subst (Left left) e h in
      let d = count_cons p x xs in
      omega (arith, c, d)

  module _ (h : Ends p tell old now before told at left) (x : A) (is : slice_get now at ≡ Some x) where
    -- it is taken out
    pub out : p x ≡ true → (next : List A) → next ≡ remove now at → (rest : List B) → rest ≡ told ++ tell x ∷ [] → Ends p tell old next before rest at (left - 1)
    out on next e rest r = record {
      front =
          h.front
          ∙ (λ i. sym (removed_take now at) i ++ filter (λ x. not (p x)) (removed_drop now at x is i))
          ∙ ap (λ b. take at (remove now at) ++ cond (not b) (x ∷ filter (λ x. not (p x)) (drop at (remove now at))) (filter (λ x. not (p x)) (drop at (remove now at)))) on
          ∙ ap (λ xs. take at xs ++ filter (λ x. not (p x)) (drop at xs)) (sym e);
      says =
          (λ i. r i ++ map tell (filter p (drop at (e i))))
          ∙ append_assoc told (tell x ∷ []) (map tell (filter p (drop at (remove now at))))
          ∙ ap (λ b. told ++ map tell (cond b (x ∷ filter p (drop at (remove now at))) (filter p (drop at (remove now at))))) (sym on)
          ∙ ap (λ xs. told ++ map tell (filter p xs)) (sym (removed_drop now at x is))
          ∙ h.says;
      few = let k = head_counted x (drop at (remove now at)) (removed_drop now at x is) on h.few in subst (λ xs. count_by p (drop at xs) ≤ left - 1) (sym e) (omega (arith, k));
    }

    -- it stays
    pub stays : p x ≡ false → Ends p tell old now before told (suc at) left
    stays off = record {
      front =
          h.front
          ∙ ap (λ xs. take at now ++ filter (λ x. not (p x)) xs) (drop_next now at x is)
          ∙ ap (λ b. take at now ++ cond (not b) (x ∷ filter (λ x. not (p x)) (drop (suc at) now)) (filter (λ x. not (p x)) (drop (suc at) now))) off
          ∙ sym (append_assoc (take at now) (x ∷ []) (filter (λ x. not (p x)) (drop (suc at) now)))
          ∙ ap (λ xs. xs ++ filter (λ x. not (p x)) (drop (suc at) now)) (sym (take_next now at x is));
      says =
          ap (λ b. told ++ map tell (cond b (x ∷ filter p (drop (suc at) now)) (filter p (drop (suc at) now)))) (sym off)
          ∙ ap (λ xs. told ++ map tell (filter p xs)) (sym (drop_next now at x is))
          ∙ h.says;
      few = head_passed x (drop (suc at) now) (drop_next now at x is) off h.few;
    }

  -- all are found
  module _ (h : Ends p tell old now before told at left) (none : count_by p (drop at now) ≤ 0) where
    pub all_out : now ≡ filter (λ x. not (p x)) old
    all_out = sym (take-append-drop at now) ∙ ap (λ xs. take at now ++ xs) (none_pass p (drop at now) none).0 ∙ sym h.front

    pub all_told : told ≡ before ++ map tell (filter p old)
    all_told = sym (append-nil told) ∙ ap (λ xs. told ++ map tell xs) (sym (none_pass p (drop at now) none).1) ∙ h.says

pub none_past : {A : Type 0} (p : A → Bool) (xs : List A) (i : ℕ) → length xs ≤ i → count_by p (drop i xs) ≤ 0
none_past p [] zero h = omega arith
none_past p [] (suc i) h = omega arith
none_past p (x ∷ xs) zero h = absurd (omega arith)
none_past p (x ∷ xs) (suc i) h = none_past p xs i (omega arith)

pub begins : {A B : Type 0} (p : A → Bool) (tell : A → B) (old : List A) (before : List B) (at most : ℕ) → count_by p old ≤ most → count_by p (take at old) ≤ 0 → Ends p tell old old before before at most
begins p tell old before at most few none = record {
  front =
      ap (filter (λ x. not (p x))) (sym (take-append-drop at old))
      ∙ filter-append (λ x. not (p x)) (take at old) (drop at old)
      ∙ ap (λ xs. xs ++ filter (λ x. not (p x)) (drop at old)) (sym (none_pass p (take at old) none).0);
  says =
      sym (ap (λ xs. before ++ map tell (filter p xs)) (sym (take-append-drop at old))
      ∙ ap (λ xs. before ++ map tell xs) (filter-append p (take at old) (drop at old) ∙ ap (λ xs. xs ++ filter p (drop at old)) (none_pass p (take at old) none).1));
  few = let s = sum_by-take-drop (λ x. cond (p x) 1 0) old at in omega (arith, s, few);
}

-- where so many are found from a place on, and there are no more, none stands before it
pub none_before : {A : Type 0} (p : A → Bool) (xs : List A) (at most : ℕ) → count_by p xs ≤ most → most ≤ count_by p (drop at xs) → count_by p (take at xs) ≤ 0
none_before p xs at most few all = let s = sum_by-take-drop (λ x. cond (p x) 1 0) xs at in omega (arith, s, few, all)
