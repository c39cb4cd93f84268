-- Numbers of names are below their count, belong to one name, and are the places of the names that they have.
use Rattle.std.proofs.Common.{◌≡◌, ℕ, zero, suc, ◌+◌, ◌<◌, Bool, true, false, cond, List, [], ◌∷◌, ◌++◌, map, length, get_or, Some, None, refl, sym, ap, ◌∙◌, arith, nat_lt}
use Rattle.std.proofs.lemmas.List.Quantifiers.{position-Some}
use Rattle.std.specs.List.{slice_index_or, list_any, list_all, position_or_len, enumerate_from, slice_get}
use Rattle.std.specs.Option.{unwrap_or}
use Rattle.std.proofs.lemmas.Bool.{or_parts, false_from_ne_true, cond-true, lt-ltb}
use Rattle.std.proofs.lemmas.List.{append_assoc, get_or_at, length-append}
use Rattle.std.proofs.lemmas.List.Sums.{position_or_len_is}
use Rattle.std.proofs.lemmas.Option.{unwrap_or-slice_get}
use Rattle.gtrbac_model.proofs.Elements.{both_true}
use Rattle.history_laws.proofs.Members.{clash}
use Rattle.std.specs.Prelude.{bytes_eq}
use Rattle.gt_base.specs.Names.{place_of}
use Rattle.policy_book.proofs.Lists.{repeats, bytes_same, same_bytes, bytes_turned}

pub place_below : (names : List (List ℕ)) (n : List ℕ) (k : ℕ) → place_of names n ≡ Some k → k < length names
place_below names n k e = (position-Some (bytes_eq n) names k [] e).0

pub place_name : (names : List (List ℕ)) (n : List ℕ) (k : ℕ) → place_of names n ≡ Some k → n ≡ slice_index_or names k []
place_name names n k e = bytes_same _ _ (position-Some (bytes_eq n) names k [] e).1

-- names of one number are one name
pub one_place : (names : List (List ℕ)) (n m : List ℕ) (k l : ℕ) → place_of names n ≡ Some k → place_of names m ≡ Some l → k ≡ l → n ≡ m
one_place names n m k l p q e = place_name names n k p ∙ ap (λ j. slice_index_or names j []) e ∙ sym (place_name names m l q)

-- the name of a number

pub none_at : {A : Type 0} (p : A → Bool) (xs : List A) (k : ℕ) (d : A) → list_any p xs ≡ false → k < length xs → p (get_or xs k d) ≡ false
none_at p [] k d h lt = absurd (omega arith)
none_at p (x ∷ xs) zero d h lt = (or_parts (p x) _ h).0
none_at p (x ∷ xs) (suc k) d h lt = none_at p xs k d (or_parts (p x) _ h).1 (omega arith)

pub all_at : {A : Type 0} (p : A → Bool) (xs : List A) (k : ℕ) (d : A) → list_all p xs ≡ true → k < length xs → p (get_or xs k d) ≡ true
all_at p [] k d h lt = absurd (omega arith)
all_at p (x ∷ xs) zero d h lt = (both_true (p x) _ h).0
all_at p (x ∷ xs) (suc k) d h lt = all_at p xs k d (both_true (p x) _ h).1 (omega arith)

pub apart_at : {A : Type 0} (same : A → A → Bool) (xs : List A) (i k : ℕ) (d : A) → repeats same xs ≡ false → i < k → k < length xs → same (get_or xs i d) (get_or xs k d) ≡ false
apart_at same [] i k d h lt le = absurd (omega arith)
apart_at same (x ∷ xs) zero zero d h lt le = absurd (omega arith)
apart_at same (x ∷ xs) (suc i) zero d h lt le = absurd (omega arith)
apart_at same (x ∷ xs) zero (suc k) d h lt le = none_at (same x) xs k d (or_parts (list_any (same x) xs) _ h).0 (omega arith)
apart_at same (x ∷ xs) (suc i) (suc k) d h lt le = apart_at same xs i k d (or_parts (list_any (same x) xs) _ h).1 (omega arith) (omega arith)

pub name_read : (names : List (List ℕ)) (k : ℕ) → unwrap_or (slice_get names k) [] ≡ get_or names k []
name_read names k = unwrap_or-slice_get names k []

-- the place of the name of a number is the number
pub place_back : (names : List (List ℕ)) (k : ℕ) → repeats bytes_eq names ≡ false → k < length names → place_of names (unwrap_or (slice_get names k) []) ≡ Some k
place_back names k once lt =
    let name : List ℕ = get_or names k [] in
    let first : position_or_len (bytes_eq name) names ≡ k =
    position_or_len_is (bytes_eq name) names k [] (omega arith) (λ j below. false_from_ne_true _ (λ e. clash _ (bytes_turned name (get_or names j []) e) (apart_at bytes_eq names j k [] once below lt))) (λ _. same_bytes name name refl) in
    ap (place_of names) (name_read names k) ∙ (λ i. cond (nat_lt (first i) (length names)) (Some (first i)) None) ∙ cond-true _ _ _ (lt-ltb k (length names) lt)

-- the names of all numbers are the names
pub names_numbered : {A : Type 0} (names front rest : List (List ℕ)) (n : ℕ) (xs : List A) → names ≡ front ++ rest → length front ≡ n → length xs ≡ length rest
    → map (λ e. unwrap_or (slice_get names e.0) []) (enumerate_from n xs) ≡ rest
names_numbered names front [] n [] e f g = refl
names_numbered names front (r ∷ rest) n [] e f g = absurd (omega arith)
names_numbered names front [] n (x ∷ xs) e f g = absurd (omega arith)
names_numbered names front (r ∷ rest) n (x ∷ xs) e f g =
    let here : unwrap_or (slice_get names n) [] ≡ r = name_read names n ∙ ap (λ z. get_or z n []) e ∙ get_or_at front r rest [] n f in
    let more : map (λ e. unwrap_or (slice_get names e.0) []) (enumerate_from (n + 1) xs) ≡ rest =
    names_numbered names (front ++ r ∷ []) rest (n + 1) xs (e ∙ sym (append_assoc front (r ∷ []) rest)) (length-append front (r ∷ []) ∙ ap (λ z. z + 1) f) (omega arith) in
    λ i. here i ∷ more i
