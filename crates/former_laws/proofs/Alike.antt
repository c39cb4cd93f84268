-- Lists that are gone over by tests, or by functions to lists, that agree on their items.
use Rattle.std.proofs.Common.{◌≡◌, suc, Bool, ◌&&◌, ◌||◌, List, [], ◌∷◌, ◌++◌, flat_map, All, refl, ◌∙◌, ap, arith}
use Rattle.std.specs.List.{list_any, list_all}

pub of_rest : {A : Type 0} (P : A → Type 0) (x : A) (xs : List A) → All P (x ∷ xs) → All P xs
of_rest P x xs every k d lt = every (suc k) d (omega (arith, lt))

module _ {A : Type 0} (P : A → Type 0) (p q : A → Bool) (agree : (x : A) → P x → p x ≡ q x) where
  pub all_alike : (xs : List A) → All P xs → list_all p xs ≡ list_all q xs
  all_alike [] every = refl
  all_alike (x ∷ xs) every = ap (λ b. b && list_all p xs) (agree x (every 0 x (omega arith))) ∙ ap (λ b. q x && b) (all_alike xs (of_rest P x xs every))

  pub any_alike : (xs : List A) → All P xs → list_any p xs ≡ list_any q xs
  any_alike [] every = refl
  any_alike (x ∷ xs) every = ap (λ b. b || list_any p xs) (agree x (every 0 x (omega arith))) ∙ ap (λ b. q x || b) (any_alike xs (of_rest P x xs every))

module _ {A B : Type 0} (P : A → Type 0) (f g : A → List B) (agree : (x : A) → P x → f x ≡ g x) where
  pub flat_alike : (xs : List A) → All P xs → flat_map f xs ≡ flat_map g xs
  flat_alike [] every = refl
  flat_alike (x ∷ xs) every = ap (λ b. b ++ flat_map f xs) (agree x (every 0 x (omega arith))) ∙ ap (λ b. g x ++ b) (flat_alike xs (of_rest P x xs every))
