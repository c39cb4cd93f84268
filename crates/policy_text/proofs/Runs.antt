-- A run over a list, an item further.
use Rattle.std.proofs.Common.{◌≡◌, ℕ, ◌+◌, ◌<◌, ◌≤◌, Bool, true, List, [], ◌∷◌, ◌++◌, flat_map, map, take, length, get_or, Some, sym, ap, subst, ◌∙◌, append_assoc, arith}
use Rattle.std.specs.List.{list_all, enumerate_from, slice_get}
use Rattle.std.specs.Option.{unwrap_or}
use Rattle.std.proofs.lemmas.Grind.{take_at_read}
use Rattle.std.proofs.lemmas.Option.{unwrap_or-slice_get, slice_get_within, get_or_from_slice_get}
use Rattle.std.proofs.lemmas.List.{take_all, flat_map_more, map-append}
use Rattle.std.proofs.lemmas.List.FromFn.{length-enumerate_from, get_or-enumerate_from}
use Rattle.policy_book.proofs.Places.{all_at}

pub next_name : (names : List (List ℕ)) (i : ℕ) → i < length names → take (i + 1) names ≡ take i names ++ unwrap_or (slice_get names i) [] ∷ []
next_name names i lt = (take_at_read names i [] lt).1 ∙ ap (λ n. take i names ++ n ∷ []) (sym (unwrap_or-slice_get names i []))

pub next_numbered : {A : Type 0} (xs : List A) (i : ℕ) (d : A) → i < length xs → take (i + 1) (enumerate_from 0 xs) ≡ take i (enumerate_from 0 xs) ++ (i, get_or xs i d) ∷ []
next_numbered xs i d lt =
    let before : 0 + i ≡ i = omega arith in
    let within : i < length (enumerate_from 0 xs) = omega (arith, length-enumerate_from 0 xs) in
    (take_at_read (enumerate_from 0 xs) i (0, d) within).1
    ∙ ap (λ e. take i (enumerate_from 0 xs) ++ e ∷ []) (get_or-enumerate_from 0 xs i (0, d) lt ∙ ap (λ k. (k, get_or xs i d)) before)

-- the item is read in an equal list

pub next_listed : {A : Type 0} (xs ys : List A) (i : ℕ) (x : A) → xs ≡ ys → i < length xs → x ≡ get_or xs i x → take (i + 1) ys ≡ take i ys ++ x ∷ []
next_listed xs ys i x same lt is =
    let within : i < length ys = omega (arith, ap length same) in
    (take_at_read ys i x within).1 ∙ ap (λ z. take i ys ++ z ∷ []) (ap (λ zs. get_or zs i x) (sym same) ∙ sym is)

pub next_in : {A : Type 0} (xs ys : List A) (i : ℕ) (d : A) → xs ≡ ys → i < length xs → take (i + 1) (enumerate_from 0 ys) ≡ take i (enumerate_from 0 ys) ++ (i, get_or xs i d) ∷ []
next_in xs ys i d same lt =
    let within : i < length ys = omega (arith, ap length same) in
    next_numbered ys i d within ∙ ap (λ zs. take i (enumerate_from 0 ys) ++ (i, get_or zs i d) ∷ []) (sym same)

pub next_read : {A : Type 0} (xs ys : List A) (i : ℕ) (x : A) → xs ≡ ys → i < length xs → x ≡ get_or xs i x → take (i + 1) (enumerate_from 0 ys) ≡ take i (enumerate_from 0 ys) ++ (i, x) ∷ []
next_read xs ys i x same lt is = next_in xs ys i x same lt ∙ ap (λ y. take i (enumerate_from 0 ys) ++ (i, y) ∷ []) (sym is)

pub next_got : {A : Type 0} (xs : List A) (i : ℕ) (x : A) → slice_get xs i ≡ Some x → take (i + 1) (enumerate_from 0 xs) ≡ take i (enumerate_from 0 xs) ++ (i, x) ∷ []
next_got xs i x is = next_numbered xs i x (slice_get_within xs i x is) ∙ ap (λ y. take i (enumerate_from 0 xs) ++ (i, y) ∷ []) (get_or_from_slice_get xs i x x is)

pub further : {A : Type 0} (f : A → List ℕ) (xs : List A) (i : ℕ) (x : A) (old text more : List ℕ) → take (i + 1) xs ≡ take i xs ++ x ∷ [] → text ≡ old ++ flat_map f (take i xs) → more ≡ text ++ f x
    → more ≡ old ++ flat_map f (take (i + 1) xs)
further f xs i x old text more step so_far added = added ∙ ap (λ t. t ++ f x) so_far ∙ flat_map_more f old (take i xs) x ∙ ap (λ ys. old ++ flat_map f ys) (sym step)

pub all_run : {A : Type 0} (f : (ℕ × A) → List ℕ) (xs : List A) (i : ℕ) (old text : List ℕ) → length xs ≤ i → text ≡ old ++ flat_map f (take i (enumerate_from 0 xs)) → text ≡ old ++ flat_map f (enumerate_from 0 xs)
all_run f xs i old text le so_far = so_far ∙ ap (λ ys. old ++ flat_map f ys) (take_all i (enumerate_from 0 xs) (omega (arith, length-enumerate_from 0 xs)))

-- the list that was read is at its end

pub whole_run : {A : Type 0} (f : A → List ℕ) (xs ys : List A) (i : ℕ) (old text : List ℕ) → xs ≡ ys → length xs ≤ i → text ≡ old ++ flat_map f (take i ys) → text ≡ old ++ flat_map f ys
whole_run f xs ys i old text same le so_far =
    so_far ∙ ap (λ zs. old ++ flat_map f zs) (take_all i ys (subst (λ zs. length zs ≤ i) same le))

pub whole_map : {A B : Type 0} (f : A → B) (xs : List A) (i : ℕ) (old items : List B) → length xs ≤ i → items ≡ old ++ map f (take i xs) → items ≡ old ++ map f xs
whole_map f xs i old items le so_far = so_far ∙ ap (λ zs. old ++ map f zs) (take_all i xs le)

-- the next item, and what all pass, read with what stands for a missing one

pub next_at : {A : Type 0} (xs ys : List A) (i : ℕ) (d : A) → xs ≡ ys → i < length xs → take (i + 1) ys ≡ take i ys ++ get_or xs i d ∷ []
next_at xs ys i d same lt =
    (take_at_read ys i d (subst (λ zs. i < length zs) same lt)).1 ∙ ap (λ zs. take i ys ++ get_or zs i d ∷ []) (sym same)

pub passes_at : {A : Type 0} (p : A → Bool) (xs ys : List A) (i : ℕ) (d : A) → list_all p ys ≡ true → xs ≡ ys → i < length xs → p (get_or xs i d) ≡ true
passes_at p xs ys i d all same lt = ap (λ zs. p (get_or zs i d)) same ∙ all_at p ys i d all (subst (λ zs. i < length zs) same lt)

pub item_is : {A : Type 0} (p : A → Bool) (xs ys : List A) (k : ℕ) (x : A) → list_all p ys ≡ true → xs ≡ ys → k < length xs → x ≡ get_or xs k x → p x ≡ true
item_is p xs ys k x all same lt is =
    let within : k < length ys = omega (arith, ap length same) in
    ap p (is ∙ ap (λ zs. get_or zs k x) same) ∙ all_at p ys k x all within

pub mapped_further : {A B : Type 0} (f : A → B) (xs : List A) (i : ℕ) (d : A) (y : B) (old before new : List B) → i < length xs → y ≡ f (get_or xs i d) → before ≡ old ++ map f (take i xs) → new ≡ before ++ y ∷ []
    → new ≡ old ++ map f (take (i + 1) xs)
mapped_further f xs i d y old before new lt is so_far added =
    added ∙ ap (λ b. b ++ y ∷ []) so_far ∙ append_assoc old (map f (take i xs)) (y ∷ [])
    ∙ ap (λ z. old ++ (map f (take i xs) ++ z ∷ [])) is
    ∙ ap (λ m. old ++ m) (sym (map-append f (take i xs) (get_or xs i d ∷ [])) ∙ ap (map f) (sym (take_at_read xs i d lt).1))
