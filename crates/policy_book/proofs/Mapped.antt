-- Tests of mapped lists, and what partial maps keep of them.
use Rattle.std.proofs.Common.{◌≡◌, ℕ, ◌+◌, ◌≤◌, Bool, true, false, cond, ◌&&◌, List, [], ◌∷◌, ◌++◌, map, length, filter, Option, Some, None, refl, ap, ◌∙◌, arith, nat_lt}
use Rattle.std.specs.List.{list_all, list_any, filter_map, cons_option, flat_map, enumerate_from}
use Rattle.std.proofs.lemmas.Bool.{or_parts, or_from, false_from_ne_true, lt-ltb}
use Rattle.std.proofs.lemmas.List.Folds.{list_all-append}
use Rattle.gtrbac_model.proofs.Elements.{both_true, and_true}
use Rattle.history_laws.proofs.Members.{clash}
use Rattle.policy_book.proofs.Lists.{repeats}

pub all_true : {A : Type 0} (xs : List A) → list_all (λ _. true) xs ≡ true
all_true [] = refl
all_true (x ∷ xs) = all_true xs

pub all_weaker : {A : Type 0} (p q : A → Bool) → ((x : A) → p x ≡ true → q x ≡ true) → (xs : List A) → list_all p xs ≡ true → list_all q xs ≡ true
all_weaker p q on [] h = refl
all_weaker p q on (x ∷ xs) h = let parts = both_true (p x) _ h in and_true _ _ (on x parts.0) (all_weaker p q on xs parts.1)

pub all_join : {A : Type 0} (p : A → Bool) (xs ys : List A) → list_all p xs ≡ true → list_all p ys ≡ true → list_all p (xs ++ ys) ≡ true
all_join p xs ys h k = list_all-append p xs ys ∙ and_true _ _ h k

pub all_filter : {A : Type 0} (p q : A → Bool) (xs : List A) → list_all q xs ≡ true → list_all (λ x. p x && q x) (filter p xs) ≡ true
all_filter p q [] h = refl
all_filter {A} p q (x ∷ xs) h = by (p x) refl (both_true (q x) _ h).0 (all_filter p q xs (both_true (q x) _ h).1)
  where
    by : (b : Bool) → p x ≡ b → q x ≡ true → list_all (λ y. p y && q y) (filter p xs) ≡ true → list_all (λ y. p y && q y) (cond b (x ∷ filter p xs) (filter p xs)) ≡ true
    by true e k on = and_true _ _ (and_true _ _ e k) on
    by false e k on = on

module _ {A X : Type 0} (g : A → X) where
  pub all_map : (p : X → Bool) (q : A → Bool) → ((a : A) → q a ≡ true → p (g a) ≡ true) → (as' : List A) → list_all q as' ≡ true → list_all p (map g as') ≡ true
  all_map p q on [] h = refl
  all_map p q on (a ∷ as') h = let parts = both_true (q a) _ h in and_true _ _ (on a parts.0) (all_map p q on as' parts.1)

  pub none_map : {B : Type 0} (f : X → Option B) → ((a : A) → f (g a) ≡ None) → (as' : List A) → filter_map f (map g as') ≡ []
  none_map f on [] = refl
  none_map f on (a ∷ as') = ap (λ o. cons_option o (filter_map f (map g as'))) (on a) ∙ none_map f on as'

  pub kept_map : {B : Type 0} (f : X → Option B) (h : A → B) (q : A → Bool) → ((a : A) → q a ≡ true → f (g a) ≡ Some (h a)) → (as' : List A) → list_all q as' ≡ true → filter_map f (map g as') ≡ map h as'
  kept_map f h q on [] e = refl
  kept_map f h q on (a ∷ as') e =
      let parts = both_true (q a) _ e in
      ap (λ o. cons_option o (filter_map f (map g as'))) (on a parts.0) ∙ ap (λ zs. h a ∷ zs) (kept_map f h q on as' parts.1)

  -- a relation that comes of one of other values
  pub apart_map : {B : Type 0} (r : X → X → Bool) (same : B → B → Bool) (h : A → B) (q : A → Bool)
      → ((a b : A) → q a ≡ true → q b ≡ true → r (g a) (g b) ≡ true → same (h a) (h b) ≡ true) → (as' : List A) → list_all q as' ≡ true → repeats same (map h as') ≡ false → repeats r (map g as') ≡ false
  apart_map r same h q on [] all e = refl
  apart_map r same h q on (a ∷ as') all e =
      let parts = or_parts (list_any (same (h a)) (map h as')) _ e in
      let qs = both_true (q a) _ all in
      or_from (list_any (r (g a)) (map g as')) _ (there as' qs.1 parts.0) (apart_map r same h q on as' qs.1 parts.1)
    where
      there : (bs : List A) → list_all q bs ≡ true → list_any (same (h a)) (map h bs) ≡ false → list_any (r (g a)) (map g bs) ≡ false
      there [] k f = refl
      there (b ∷ bs) k f =
          let ks = both_true (q b) _ k in
          let fs = or_parts (same (h a) (h b)) _ f in
          or_from (r (g a) (g b)) _ (false_from_ne_true _ (λ c. clash _ (on a b (both_true (q a) _ all).0 ks.0 c) fs.0)) (there bs ks.1 fs.1)

pub all_flat_map : {A X : Type 0} (g : A → List X) (p : X → Bool) (q : A → Bool) → ((a : A) → q a ≡ true → list_all p (g a) ≡ true) → (as' : List A) → list_all q as' ≡ true → list_all p (flat_map g as') ≡ true
all_flat_map g p q on [] h = refl
all_flat_map g p q on (a ∷ as') h = let parts = both_true (q a) _ h in all_join p (g a) _ (on a parts.0) (all_flat_map g p q on as' parts.1)

-- items with their places

pub items_of_numbered : {A : Type 0} (n : ℕ) (xs : List A) → map (λ e. e.1) (enumerate_from n xs) ≡ xs
items_of_numbered n [] = refl
items_of_numbered n (x ∷ xs) = ap (λ zs. x ∷ zs) (items_of_numbered (n + 1) xs)

pub all_numbered : {A : Type 0} (q : A → Bool) (m n : ℕ) (xs : List A) → n + length xs ≤ m → list_all q xs ≡ true → list_all (λ e. nat_lt e.0 m && q e.1) (enumerate_from n xs) ≡ true
all_numbered q m n [] le h = refl
all_numbered q m n (x ∷ xs) le h =
    let parts = both_true (q x) _ h in
    and_true _ _ (and_true _ _ (lt-ltb n m (omega arith)) parts.0) (all_numbered q m (n + 1) xs (omega arith) parts.1)
