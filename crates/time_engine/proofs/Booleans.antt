-- Small laws of tests.
use Rattle.std.proofs.Common.{◌≡◌, Bool, true, false, ◌||◌, List, [], ◌∷◌, ◌++◌, map, refl, sym, ap}
use Rattle.std.specs.List.{list_any}
use Rattle.gtrbac_model.specs.History.{is_some_item}

pub both : (a b : Bool) → (a ≡ true → b ≡ true) → (b ≡ true → a ≡ true) → a ≡ b
both true true f g = refl
both true false f g = sym (f refl)
both false true f g = g refl
both false false f g = refl

pub swap_last : (a d l : Bool) → ((a || l) || d) ≡ ((a || d) || l)
swap_last true d l = refl
swap_last false true true = refl
swap_last false true false = refl
swap_last false false true = refl
swap_last false false false = refl

pub is_false : (b : Bool) → (b ≡ true → ⊥) → b ≡ false
is_false true f = absurd (f refl)
is_false false f = refl

pub clash : (b : Bool) → b ≡ true → b ≡ false → ⊥
clash true p q = cc
clash false p q = cc

pub some-append : {A : Type 0} (xs ys : List A) → is_some_item (xs ++ ys) ≡ (is_some_item xs || is_some_item ys)
some-append [] ys = refl
some-append (x ∷ xs) ys = refl

pub some-map : {A B : Type 0} (f : A → B) (xs : List A) → is_some_item (map f xs) ≡ is_some_item xs
some-map f [] = refl
some-map f (x ∷ xs) = refl

pub any-append : {A : Type 0} (p : A → Bool) (xs ys : List A) → list_any p (xs ++ ys) ≡ (list_any p xs || list_any p ys)
any-append p [] ys = refl
any-append p (x ∷ xs) ys = at (p x) _ _ _ (any-append p xs ys)
  where
    at : (a b c d : Bool) → b ≡ (c || d) → (a || b) ≡ ((a || c) || d)
    at true b c d e = refl
    at false b c d e = e

pub any-map : {A B : Type 0} (p : B → Bool) (f : A → B) (xs : List A) → list_any p (map f xs) ≡ list_any (λ x. p (f x)) xs
any-map p f [] = refl
any-map p f (x ∷ xs) = ap (λ b. p (f x) || b) (any-map p f xs)
