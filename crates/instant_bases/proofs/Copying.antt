-- Lists that are made from the items of another, one after the other.
use Rattle.std.proofs.Common.{◌≡◌, ℕ, ◌+◌, ◌<◌, ◌≤◌, List, [], ◌∷◌, ◌++◌, length, get_or, take, flat_map, sym, ◌∙◌, ap}
use Rattle.std.proofs.lemmas.List.{take_more, take_all, flat_map_more}

pub copied_more : {X : Type 0} (xs old new : List X) (i : ℕ) (x y : X) → i < length xs → y ≡ get_or xs i y → x ≡ y → new ≡ old ++ x ∷ [] → old ≡ take i xs → new ≡ take (i + 1) xs
copied_more xs old new i x y lt is_y same is so_far =
    is ∙ (λ j. so_far j ++ same j ∷ []) ∙ ap (λ z. take i xs ++ z ∷ []) is_y ∙ sym (take_more xs i y lt)

pub copied_all : {X : Type 0} (xs old : List X) (i : ℕ) → length xs ≤ i → old ≡ take i xs → old ≡ xs
copied_all xs old i all so_far = so_far ∙ take_all i xs all

-- what the items give, one after the other

pub part_more : {X A : Type 0} (f : X → List A) (init old new : List A) (xs : List X) (i : ℕ) (x : X) → i < length xs → x ≡ get_or xs i x → new ≡ old ++ f x → old ≡ init ++ flat_map f (take i xs) → new ≡ init ++ flat_map f (take (i + 1) xs)
part_more f init old new xs i x lt is_x is so_far =
    is
    ∙ ap (λ a. a ++ f x) so_far
    ∙ flat_map_more f init (take i xs) x
    ∙ ap (λ ys. init ++ flat_map f ys) (ap (λ y. take i xs ++ y ∷ []) is_x ∙ sym (take_more xs i x lt))

pub parts_all : {X A : Type 0} (f : X → List A) (init old : List A) (xs : List X) (i : ℕ) → length xs ≤ i → old ≡ init ++ flat_map f (take i xs) → old ≡ init ++ flat_map f xs
parts_all f init old xs i all so_far = so_far ∙ ap (λ ys. init ++ flat_map f ys) (take_all i xs all)
