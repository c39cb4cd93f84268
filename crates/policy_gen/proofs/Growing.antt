-- A text that grows by the lines of one number more.
use Rattle.std.proofs.Common.{◌≡◌, ℕ, ◌+◌, List, [], ◌∷◌, ◌++◌, map, flat_map, refl, sym, ap, ◌∙◌, append_assoc, append-nil}
use Rattle.std.specs.Prelude.{Result, Ok, Err, OnOk}
use Rattle.std.specs.List.{range_with_len}
use Rattle.std.proofs.lemmas.List.FromFn.{map-range_with_len_more}
use Rattle.std.proofs.lemmas.Grind.{flat_map-append}
use Rattle.std.proofs.lemmas.List.{map-id}
use Rattle.gt_text.specs.Words.{as_text}

-- two parts of a text
pub parts : (xs ys : List (List ℕ)) → as_text (xs ++ ys) ≡ as_text xs ++ as_text ys
parts xs ys = flat_map-append (λ line. line ++ 10 ∷ []) xs ys

-- what holds on success has what follows from it
pub on_ok : {T E A B : Type 0} (r : Result T E) → OnOk r A → (A → B) → OnOk r B
on_ok (Ok x) h f = f h
on_ok (Err e) h f = tt

pub then_lines : (xs ys : List (List ℕ)) (old text more : List ℕ) → text ≡ old ++ as_text xs → more ≡ text ++ as_text ys → more ≡ old ++ as_text (xs ++ ys)
then_lines xs ys old text more so_far added = added ∙ ap (λ t. t ++ as_text ys) so_far ∙ append_assoc old (as_text xs) (as_text ys) ∙ ap (λ t. old ++ t) (sym (parts xs ys))

pub then_line : (xs : List (List ℕ)) (line old text more : List ℕ) → text ≡ old ++ as_text xs → more ≡ text ++ (line ++ 10 ∷ []) → more ≡ old ++ as_text (xs ++ line ∷ [])
then_line xs line old text more so_far added = then_lines xs (line ∷ []) old text more so_far (added ∙ ap (λ t. text ++ t) (sym (append-nil (line ++ 10 ∷ []))))

numbers_more : (a n : ℕ) → range_with_len a (n + 1) ≡ range_with_len a n ++ (a + n) ∷ []
numbers_more a n = sym (map-id (range_with_len a (n + 1))) ∙ map-range_with_len_more (λ i. i) a n (a + n) refl ∙ ap (λ xs. xs ++ (a + n) ∷ []) (map-id (range_with_len a n))

all_more : (f : ℕ → List (List ℕ)) (a n j : ℕ) → a + n ≡ j → flat_map f (range_with_len a (n + 1)) ≡ flat_map f (range_with_len a n) ++ f j
all_more f a n j is =
    ap (λ xs. flat_map f xs) (numbers_more a n) ∙ flat_map-append f (range_with_len a n) ((a + n) ∷ []) ∙ ap (λ ys. flat_map f (range_with_len a n) ++ ys) (append-nil (f (a + n)))
    ∙ ap (λ i. flat_map f (range_with_len a n) ++ f i) is

pub lines_further : (f : ℕ → List (List ℕ)) (a n j : ℕ) (old text more : List ℕ) → a + n ≡ j → text ≡ old ++ as_text (flat_map f (range_with_len a n)) → more ≡ text ++ as_text (f j)
    → more ≡ old ++ as_text (flat_map f (range_with_len a (n + 1)))
lines_further f a n j old text more is so_far added =
    added ∙ ap (λ t. t ++ as_text (f j)) so_far ∙ append_assoc old (as_text (flat_map f (range_with_len a n))) (as_text (f j))
    ∙ ap (λ t. old ++ t) (sym (parts (flat_map f (range_with_len a n)) (f j)) ∙ ap (λ ls. as_text ls) (sym (all_more f a n j is)))

pub line_further : (f : ℕ → List ℕ) (a n j : ℕ) (old text more : List ℕ) → a + n ≡ j → text ≡ old ++ as_text (map f (range_with_len a n)) → more ≡ text ++ (f j ++ 10 ∷ [])
    → more ≡ old ++ as_text (map f (range_with_len a (n + 1)))
line_further f a n j old text more is so_far added =
    then_line (map f (range_with_len a n)) (f j) old text more so_far added ∙ ap (λ ls. old ++ as_text ls) (sym (map-range_with_len_more f a n j is))

first_line : (line old text : List ℕ) → text ≡ old ++ (line ++ 10 ∷ []) → text ≡ old ++ as_text (line ∷ [])
first_line line old text added = added ∙ ap (λ t. old ++ t) (sym (append-nil (line ++ 10 ∷ [])))

pub three_parts : (v : List ℕ) (A B : List (List ℕ)) (old t1 t2 t3 : List ℕ) → t1 ≡ old ++ (v ++ 10 ∷ []) → t2 ≡ t1 ++ as_text A → t3 ≡ t2 ++ as_text B → t3 ≡ old ++ as_text (v ∷ A ++ B)
three_parts v A B old t1 t2 t3 h1 h2 h3 = then_lines (v ∷ A) B old t2 t3 (then_lines (v ∷ []) A old t1 t2 (first_line v old t1 h1) h2) h3

-- a line and some lines more
two_parts : (L A : List (List ℕ)) (v old t t1 t2 : List ℕ) → t ≡ old ++ as_text L → t1 ≡ t ++ (v ++ 10 ∷ []) → t2 ≡ t1 ++ as_text A → t2 ≡ old ++ as_text (L ++ v ∷ A)
two_parts L A v old t t1 t2 h h1 h2 =
    then_lines (L ++ v ∷ []) A old t1 t2 (then_line L v old t t1 h h1) h2 ∙ ap (λ ls. old ++ as_text ls) (append_assoc L (v ∷ []) A)

pub four_parts : (v w x y : List ℕ) (A B C D : List (List ℕ)) (old t1 t2 t3 t4 t5 t6 t7 t8 : List ℕ)
    → t1 ≡ old ++ (v ++ 10 ∷ []) → t2 ≡ t1 ++ as_text A → t3 ≡ t2 ++ (w ++ 10 ∷ []) → t4 ≡ t3 ++ as_text B
    → t5 ≡ t4 ++ (x ++ 10 ∷ []) → t6 ≡ t5 ++ as_text C → t7 ≡ t6 ++ (y ++ 10 ∷ []) → t8 ≡ t7 ++ as_text D
    → t8 ≡ old ++ as_text (v ∷ A ++ w ∷ B ++ x ∷ C ++ y ∷ D)
four_parts v w x y A B C D old t1 t2 t3 t4 t5 t6 t7 t8 h1 h2 h3 h4 h5 h6 h7 h8 =
    let a = then_lines (v ∷ []) A old t1 t2 (first_line v old t1 h1) h2 in
    let b = two_parts (v ∷ A) B w old t2 t3 t4 a h3 h4 in
    let d = two_parts (v ∷ A ++ w ∷ B) C x old t4 t5 t6 b h5 h6 in
    let e = two_parts ((v ∷ A ++ w ∷ B) ++ x ∷ C) D y old t6 t7 t8 d h7 h8 in
    let same : ((v ∷ A ++ w ∷ B) ++ x ∷ C) ++ y ∷ D ≡ v ∷ A ++ w ∷ B ++ x ∷ C ++ y ∷ D = simp append_assoc in
    e ∙ ap (λ (ls : List (List ℕ)). old ++ as_text ls) same
