-- Lists without repeats, and what a partial map keeps of a list.
use Rattle.std.proofs.Common.{◌≡◌, ℕ, ◌≤◌, Bool, true, false, cond, ◌||◌, List, [], ◌∷◌, ◌++◌, length, filter, Option, Some, None, is_some, refl, sym, subst, ap, ◌∙◌, append_assoc, arith}
use Rattle.std.specs.Prelude.{bytes_eq}
use Rattle.std.specs.List.{list_all, list_any, filter_map, cons_option}
use Rattle.std.proofs.lemmas.Bool.{or_parts, or_from, false_from_ne_true, cond-false}
use Rattle.std.proofs.lemmas.List.{append-nil}
use Rattle.std.proofs.lemmas.Slice.Eq.{bytes_eq-Decides}
use Rattle.gtrbac_model.proofs.Elements.{both_true, and_true}
use Rattle.history_laws.proofs.Members.{clash}
use Rattle.policy_words.specs.Wording.{◌>>=◌}

pub some_same : {A : Type 0} (a b : A) → Some a ≡ Some b → a ≡ b
some_same a b e = cc

-- what an option that goes on to some value had
pub bound : {A B : Type 0} (o : Option A) (f : A → Option B) (b : B) → (o >>= f) ≡ Some b → (a : A) × (o ≡ Some a) × (f a ≡ Some b)
bound None f b e = cc
bound (Some a) f b e = (a, refl, e)

-- some item stands in the relation to a later one
abbrev pub repeats : {A : Type 0} → (A → A → Bool) → List A → Bool
repeats same [] = false
repeats same (x ∷ xs) = list_any (same x) xs || repeats same xs

pub bytes_same : (a b : List ℕ) → bytes_eq a b ≡ true → a ≡ b
bytes_same a b e = (bytes_eq-Decides a b).0 e

pub same_bytes : (a b : List ℕ) → a ≡ b → bytes_eq a b ≡ true
same_bytes a b e = (bytes_eq-Decides a b).1 e

pub bytes_turned : (a b : List ℕ) → bytes_eq a b ≡ true → bytes_eq b a ≡ true
bytes_turned a b e = same_bytes b a (sym (bytes_same a b e))

-- those that are not there go to the end, one after the other
abbrev pub with_each : {A : Type 0} → (A → A → Bool) → List A → List A → List A
with_each same xs [] = xs
with_each same xs (y ∷ ys) = with_each same (cond (list_any (same y) xs) xs (xs ++ y ∷ [])) ys

-- an item that is joined to one of a list makes it repeat
pub no_later : {A : Type 0} (same : A → A → Bool) (xs : List A) (y : A) (ys : List A) → repeats same (xs ++ y ∷ ys) ≡ false → list_any (λ x. same x y) xs ≡ false
no_later same [] y ys e = refl
no_later {A} same (x ∷ xs) y ys e =
    let parts = or_parts (list_any (same x) (xs ++ y ∷ ys)) _ e in
    or_from (same x y) _ (there xs parts.0) (no_later same xs y ys parts.1)
  where
    there : (zs : List A) → list_any (same x) (zs ++ y ∷ ys) ≡ false → same x y ≡ false
    there [] h = (or_parts (same x y) _ h).0
    there (z ∷ zs) h = there zs (or_parts (same x z) _ h).1

module _ {A : Type 0} (same : A → A → Bool) (turned : (a b : A) → same a b ≡ true → same b a ≡ true) where
  turned_any : (y : A) (xs : List A) → list_any (λ x. same x y) xs ≡ false → list_any (same y) xs ≡ false
  turned_any y [] e = refl
  turned_any y (x ∷ xs) e =
      let parts = or_parts (same x y) _ e in
      or_from (same y x) _ (false_from_ne_true _ (λ h. clash _ (turned y x h) parts.0)) (turned_any y xs parts.1)

  -- items without repeats all go to the end
  pub all_at_end : (xs ys : List A) → repeats same (xs ++ ys) ≡ false → with_each same xs ys ≡ xs ++ ys
  all_at_end xs [] h = sym (append-nil xs)
  all_at_end xs (y ∷ ys) h =
      let more : cond (list_any (same y) xs) xs (xs ++ y ∷ []) ≡ xs ++ y ∷ [] = cond-false _ _ _ (turned_any y xs (no_later same xs y ys h)) in
      ap (λ z. with_each same z ys) more
      ∙ all_at_end (xs ++ y ∷ []) ys (subst (λ z. repeats same z ≡ false) (sym (append_assoc xs (y ∷ []) ys)) h)
      ∙ append_assoc xs (y ∷ []) ys

module _ {A B : Type 0} (decl : A → Option B) where
  abbrev Kept : (B → Bool) → A → Type 0
  Kept p x = (b : B) → decl x ≡ Some b → p b ≡ true

  pub all_kept : (q : A → Bool) (p : B → Bool) → ((x : A) → q x ≡ true → Kept p x) → (xs : List A) → list_all q xs ≡ true → list_all p (filter_map decl xs) ≡ true
  all_kept q p on [] h = refl
  all_kept q p on (x ∷ xs) h = by (decl x) refl (all_kept q p on xs (both_true (q x) _ h).1)
    where
      by : (o : Option B) → decl x ≡ o → list_all p (filter_map decl xs) ≡ true → list_all p (cons_option o (filter_map decl xs)) ≡ true
      by None e k = k
      by (Some b) e k = and_true (p b) _ (on x (both_true (q x) _ h).0 b e) k

  -- no more are kept than pass a test that all pass from which something is kept
  pub fewer_kept : (p : A → Bool) → ((x : A) (b : B) → decl x ≡ Some b → p x ≡ true) → (xs : List A) → length (filter_map decl xs) ≤ length (filter p xs)
  fewer_kept p passes [] = omega arith
  fewer_kept p passes (x ∷ xs) = by (decl x) (p x) refl refl (fewer_kept p passes xs)
    where
      by : (o : Option B) (t : Bool) → decl x ≡ o → p x ≡ t → length (filter_map decl xs) ≤ length (filter p xs) → length (cons_option o (filter_map decl xs)) ≤ length (cond t (x ∷ filter p xs) (filter p xs))
      by None true e f k = omega arith
      by None false e f k = k
      by (Some b) true e f k = omega arith
      by (Some b) false e f k = absurd (clash (p x) (passes x b e) f)

  pub as_many_kept : {C : Type 0} (other : A → Option C) (q : A → Bool) → ((x : A) → q x ≡ true → is_some (decl x) ≡ is_some (other x)) → (xs : List A) → list_all q xs ≡ true
      → length (filter_map decl xs) ≡ length (filter_map other xs)
  as_many_kept {C} other q alike [] h = refl
  as_many_kept {C} other q alike (x ∷ xs) h = by (decl x) (other x) (alike x (both_true (q x) _ h).0) (as_many_kept other q alike xs (both_true (q x) _ h).1)
    where
      by : (o : Option B) (s : Option C) → is_some o ≡ is_some s → length (filter_map decl xs) ≡ length (filter_map other xs) → length (cons_option o (filter_map decl xs)) ≡ length (cons_option s (filter_map other xs))
      by None None e k = k
      by (Some b) (Some c) e k = omega arith
      by None (Some c) e k = cc
      by (Some b) None e k = cc

  module _ (r : A → A → Bool) (same : B → B → Bool) (joined : (x y : A) (a b : B) → decl x ≡ Some a → decl y ≡ Some b → same a b ≡ true → r x y ≡ true) where
    none_kept : (x : A) (a : B) → decl x ≡ Some a → (ys : List A) → list_any (r x) ys ≡ false → list_any (same a) (filter_map decl ys) ≡ false
    none_kept x a e [] h = refl
    none_kept x a e (y ∷ ys) h = by (decl y) refl (none_kept x a e ys (or_parts (r x y) _ h).1)
      where
        by : (o : Option B) → decl y ≡ o → list_any (same a) (filter_map decl ys) ≡ false → list_any (same a) (cons_option o (filter_map decl ys)) ≡ false
        by None f k = k
        by (Some b) f k = or_from (same a b) _ (false_from_ne_true _ (λ s. clash _ (joined x y a b e f s) (or_parts (r x y) _ h).0)) k

    -- what is kept of a list without repeats has none
    pub none_repeats : (xs : List A) → repeats r xs ≡ false → repeats same (filter_map decl xs) ≡ false
    none_repeats [] h = refl
    none_repeats (x ∷ xs) h = by (decl x) refl (none_repeats xs (or_parts (list_any (r x) xs) _ h).1)
      where
        by : (o : Option B) → decl x ≡ o → repeats same (filter_map decl xs) ≡ false → repeats same (cons_option o (filter_map decl xs)) ≡ false
        by None e k = k
        by (Some a) e k = or_from (list_any (same a) (filter_map decl xs)) _ (none_kept x a e xs (or_parts (list_any (r x) xs) _ h).0) k
