-- Items of a list by their numbers.
use Rattle.std.proofs.Common.{◌≡◌, ℕ, zero, suc, ◌+◌, ◌<◌, ◌⊎◌, inl, inr, List, [], ◌∷◌, ◌++◌, length, map, Some, None, refl, sym, ◌∙◌, ap, arith}
use Rattle.std.specs.List.{slice_get}
use Rattle.std.specs.List.{slice_index_or, enumerate_from}
use Rattle.gtrbac_model.specs.Graph.{item_at}

pub item_within : {A : Type 0} (xs : List A) (n : ℕ) (x : A) → item_at xs n ≡ Some x → n < length xs
item_within [] n e h = cc
item_within (x ∷ xs) zero e h = omega arith
item_within (x ∷ xs) (suc n) e h = let k : n < length xs = item_within xs n e h in omega arith

pub item_read : {A : Type 0} (xs : List A) (n : ℕ) (d : A) → n < length xs → item_at xs n ≡ Some (slice_index_or xs n d)
item_read [] n d h = absurd (omega arith)
item_read (x ∷ xs) zero d h = refl
item_read (x ∷ xs) (suc n) d h = item_read xs n d (omega arith)

pub item_get : {A : Type 0} (xs : List A) (n : ℕ) → item_at xs n ≡ slice_get xs n
item_get [] n = refl
item_get (x ∷ xs) zero = refl
item_get (x ∷ xs) (suc n) = item_get xs n

pub item_map : {A B : Type 0} (f : A → B) (xs : List A) (n : ℕ) (y : B) → item_at (map f xs) n ≡ Some y → (x : A) × (item_at xs n ≡ Some x) × (y ≡ f x)
item_map f [] n y h = cc
item_map f (x ∷ xs) zero y h = (x, refl, cc)
item_map f (x ∷ xs) (suc n) y h = item_map f xs n y h

pub item_of_map : {A B : Type 0} (f : A → B) (xs : List A) (n : ℕ) (x : A) → item_at xs n ≡ Some x → item_at (map f xs) n ≡ Some (f x)
item_of_map f [] n x h = cc
item_of_map f (y ∷ xs) zero x h = ap (λ o. elim o [ Some z ↦ Some (f z) | None ↦ None ]) h
item_of_map f (y ∷ xs) (suc n) x h = item_of_map f xs n x h

pub one_item : {A : Type 0} (xs : List A) (n : ℕ) (x y : A) → item_at xs n ≡ Some x → item_at xs n ≡ Some y → x ≡ y
one_item xs n x y p q = let e : Some x ≡ Some y = sym p ∙ q in cc

-- a list that has grown by an item

pub item_front : {A : Type 0} (xs ys : List A) (n : ℕ) (x : A) → item_at xs n ≡ Some x → item_at (xs ++ ys) n ≡ Some x
item_front [] ys n x h = cc
item_front (y ∷ xs) ys zero x h = h
item_front (y ∷ xs) ys (suc n) x h = item_front xs ys n x h

pub item_last : {A : Type 0} (xs : List A) (y : A) → item_at (xs ++ y ∷ []) (length xs) ≡ Some y
item_last [] y = refl
item_last (x ∷ xs) y = item_last xs y

pub item_pushed : {A : Type 0} (xs : List A) (y : A) (n : ℕ) (x : A) → item_at (xs ++ y ∷ []) n ≡ Some x → (item_at xs n ≡ Some x) ⊎ ((n ≡ length xs) × (y ≡ x))
item_pushed [] y zero x h = inr (refl, cc)
item_pushed [] y (suc n) x h = cc
item_pushed (z ∷ xs) y zero x h = inl h
item_pushed (z ∷ xs) y (suc n) x h = elim (item_pushed xs y n x h) [ inl k ↦ inl k | inr k ↦ inr (ap suc k.0, k.1) ]

-- an item with its number

pub item_numbered : {A B : Type 0} (f : ℕ × A → B) (k : ℕ) (xs : List A) (n : ℕ) (y : B) → item_at (map f (enumerate_from k xs)) n ≡ Some y → (x : A) × (item_at xs n ≡ Some x) × (y ≡ f (k + n, x))
item_numbered f k [] n y h = cc
item_numbered f k (x ∷ xs) zero y h = let e : k ≡ k + 0 = omega arith in let s : f (k, x) ≡ y = cc in (x, refl, sym s ∙ ap (λ m. f (m, x)) e)
item_numbered f k (x ∷ xs) (suc n) y h = let (z, is, same) = item_numbered f (k + 1) xs n y h in let e : k + 1 + n ≡ k + suc n = omega arith in (z, is, same ∙ ap (λ m. f (m, z)) e)

pub item_of_numbered : {A B : Type 0} (f : ℕ × A → B) (k : ℕ) (xs : List A) (n : ℕ) (x : A) → item_at xs n ≡ Some x → item_at (map f (enumerate_from k xs)) n ≡ Some (f (k + n, x))
item_of_numbered f k [] n x h = cc
item_of_numbered f k (y ∷ xs) zero x h = let e : k ≡ k + 0 = omega arith in let s : y ≡ x = cc in ap Some (ap (λ z. f (k, z)) s ∙ ap (λ m. f (m, x)) e)
item_of_numbered f k (y ∷ xs) (suc n) x h = let e : k + 1 + n ≡ k + suc n = omega arith in item_of_numbered f (k + 1) xs n x h ∙ ap (λ m. Some (f (m, x))) e

-- within the list the default is not read
pub any_default : {A : Type 0} (xs : List A) (n : ℕ) (d e : A) → n < length xs → slice_index_or xs n d ≡ slice_index_or xs n e
any_default [] n d e h = absurd (omega arith)
any_default (x ∷ xs) zero d e h = refl
any_default (x ∷ xs) (suc n) d e h = any_default xs n d e (omega arith)
