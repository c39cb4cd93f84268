-- Items that go from the end of one list to the end of another, one by one.
use Rattle.std.proofs.Common.{◌≡◌, ◌+◌, List, [], ◌∷◌, ◌++◌, map, reverse, length, sym, ap, subst, ◌∙◌, append_assoc, length-append}
use Rattle.std.specs.Prelude.{All}
use Rattle.std.proofs.lemmas.List.{length-reverse, length-map, reverse-append, map-append}
use Rattle.std.proofs.lemmas.List.Elements.{All-push}

-- as many stand in a list as in that of its images in reverse
pub reversed_length : {A B : Type 0} (f : A → B) (xs : List A) (ys : List B) → reverse (map f xs) ≡ ys → length xs ≡ length ys
reversed_length {A} {B} f xs ys is = sym (length-map xs f) ∙ (sym (length-reverse (map f xs)) ∙ ap (λ (l : List B). length l) is)

-- in reverse the last comes first
last_first : {A B : Type 0} (f : A → B) (front : List B) (xs : List A) (x : A) → front ++ reverse (map f (xs ++ x ∷ [])) ≡ (front ++ f x ∷ []) ++ reverse (map f xs)
last_first {A} {B} f front xs x =
    ap (λ (l : List B). front ++ reverse l) (map-append f xs (x ∷ []))
    ∙ (ap (λ (l : List B). front ++ l) (reverse-append (map f xs) (f x ∷ [])) ∙ sym (append_assoc front (f x ∷ []) (reverse (map f xs))))

-- an item that goes from the end of one list to the end of another, and its image back
pub moved_on : {A B : Type 0} (f : A → B) (front front' : List B) (xs ys : List A) (x : A) → front ≡ front' ++ f x ∷ [] → ys ≡ xs ++ x ∷ [] → front' ++ reverse (map f ys) ≡ front ++ reverse (map f xs)
moved_on {A} {B} f front front' xs ys x took pushed =
    ap (λ (l : List A). front' ++ reverse (map f l)) pushed ∙ (last_first f front' xs x ∙ ap (λ (l : List B). l ++ reverse (map f xs)) (sym took))

-- it is one longer
pub one_longer : {A : Type 0} (xs ys : List A) (x : A) → ys ≡ xs ++ x ∷ [] → length ys ≡ length xs + 1
one_longer {A} xs ys x is = ap (λ (l : List A). length l) is ∙ length-append xs (x ∷ [])

-- and what holds of all and of the item holds of all
pub all_pushed : {A : Type 0} (P : A → Type 0) (xs ys : List A) (x : A) → ys ≡ xs ++ x ∷ [] → All P xs → P x → All P ys
all_pushed {A} P xs ys x is all one = subst (λ (l : List A). All P l) (sym is) (All-push P xs x all one)
