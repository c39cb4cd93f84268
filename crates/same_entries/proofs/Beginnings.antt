-- Lists whose first items are the same.
use Rattle.std.proofs.Common.{◌≡◌, ℕ, ◌+◌, ◌<◌, List, [], ◌∷◌, ◌++◌, length, take, drop, get_or, sym, ap, ◌∙◌, arith, take-append-drop}
use Rattle.std.proofs.lemmas.List.{take_more, take_all, get_or_append_left, get_or_default, length-append}
use mathlib.Core.List.{IsPrefix}

-- one more item
pub same_more : {A : Type 0} (xs ys : List A) (i : ℕ) (x y : A) → take i xs ≡ take i ys → i < length xs → i < length ys → x ≡ get_or xs i x → y ≡ get_or ys i y → x ≡ y → take (i + 1) xs ≡ take (i + 1) ys
same_more xs ys i x y same low low' at at' is =
    take_more xs i x low
    ∙ ap (λ l. take i xs ++ l ∷ []) (sym at ∙ is ∙ at')
    ∙ ap (λ l. l ++ get_or ys i y ∷ []) same
    ∙ sym (take_more ys i y low')

-- all of them
pub all_same : {A : Type 0} (xs ys : List A) (n : ℕ) → n ≡ length xs → take n xs ≡ take n ys → IsPrefix xs ys
all_same xs ys n all same =
    (drop n ys, ap (λ l. l ++ drop n ys) (sym (take_all n xs (omega (arith, all))) ∙ same) ∙ take-append-drop n ys)

-- a longer list begins none
pub none_longer : {A : Type 0} (xs ys : List A) → length ys < length xs → IsPrefix xs ys → ⊥
none_longer xs ys long (zs, is) = let n = length-append xs zs in let m = ap length is in absurd (omega (arith, long, n, m))

-- where one begins another, each of its items is the same
pub item_same : {A : Type 0} (xs ys : List A) (i : ℕ) (x y : A) → IsPrefix xs ys → i < length xs → i < length ys → x ≡ get_or xs i x → y ≡ get_or ys i y → x ≡ y
item_same xs ys i x y (zs, is) low low' at at' =
    at ∙ get_or_default xs i x y low ∙ sym (get_or_append_left xs zs y i low) ∙ ap (λ l. get_or l i y) is ∙ sym at'
