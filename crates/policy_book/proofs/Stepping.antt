-- One item more of a list that a loop runs over.
use Rattle.std.proofs.Common.{◌≡◌, ℕ, suc, ◌+◌, ◌<◌, List, [], ◌∷◌, ◌++◌, map, take, drop, length, get_or, Option, Some, None, sym, ap, ◌∙◌, append_assoc, add-one, drop-cons}
use Rattle.std.specs.List.{filter_map, cons_option}
use Rattle.std.proofs.lemmas.Grind.{take_at_read}
use Rattle.std.proofs.lemmas.List.{map-append}

module _ {A B : Type 0} (f : A → Option B) (xs : List A) (i : ℕ) (x : A) (all old new : List B) (lt : i < length xs) (is : x ≡ get_or xs i x) where
  abbrev rest : List B
  rest = filter_map f (drop (i + 1) xs)

  opened : drop i xs ≡ x ∷ drop (i + 1) xs
  opened = rw (add-one, drop-cons xs i x) (ap (λ z. z ∷ drop (suc i) xs) (sym is))

  told : (o : Option B) → f x ≡ o → old ++ filter_map f (drop i xs) ≡ all → old ++ cons_option o rest ≡ all
  told o e so_far = ap (λ p. old ++ cons_option p rest) (sym e) ∙ ap (λ ys. old ++ filter_map f ys) (sym opened) ∙ so_far

  pub kept_more : (y : B) → f x ≡ Some y → new ≡ old ++ y ∷ [] → old ++ filter_map f (drop i xs) ≡ all → new ++ filter_map f (drop (i + 1) xs) ≡ all
  kept_more y e added so_far = ap (λ n. n ++ rest) added ∙ append_assoc old (y ∷ []) rest ∙ told (Some y) e so_far

  pub passed_over : f x ≡ None → new ≡ old → old ++ filter_map f (drop i xs) ≡ all → new ++ filter_map f (drop (i + 1) xs) ≡ all
  passed_over e same so_far = ap (λ n. n ++ rest) same ∙ told None e so_far

pub mapped_more : {A B : Type 0} (f : A → B) (xs : List A) (i : ℕ) (d : A) (y : B) (old new : List B) → i < length xs → y ≡ f (get_or xs i d) → old ≡ map f (take i xs) → new ≡ old ++ y ∷ []
    → new ≡ map f (take (i + 1) xs)
mapped_more f xs i d y old new lt is so_far added =
    added ∙ ap (λ o. o ++ y ∷ []) so_far ∙ ap (λ z. map f (take i xs) ++ z ∷ []) is ∙ sym (map-append f (take i xs) (get_or xs i d ∷ [])) ∙ ap (map f) (sym (take_at_read xs i d lt).1)
