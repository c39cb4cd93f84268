-- A row behind a gap: what is taken out of it.
use Rattle.std.proofs.Common.{◌≡◌, ℕ, zero, suc, ◌+◌, ◌<◌, ◌≤◌, List, [], ◌∷◌, ◌++◌, length, take, drop, refl, sym, ap, ◌∙◌, append_assoc, arith}
use Rattle.std.specs.List.{remove}
use Rattle.std.proofs.lemmas.List.{drop-drop}
use lib.Seq.{paste}

past_front : {A : Type 0} (n : ℕ) (xs ys : List A) → n ≤ length xs → drop n (take n xs ++ ys) ≡ ys
past_front zero xs ys h = refl
past_front (suc n) [] ys h = absurd (omega arith)
past_front (suc n) (x ∷ xs) ys h = past_front n xs ys (omega arith)

none_removed : {A : Type 0} (i : ℕ) → ◌≡◌ {A = List A} [] (remove [] i)
none_removed zero = refl
none_removed (suc i) = refl

pub drop_remove : {A : Type 0} (n i k : ℕ) (xs : List A) → k ≡ n + i → drop n (remove xs k) ≡ remove (drop n xs) i
drop_remove zero i k xs e = let same : k ≡ i = omega (arith, e) in ap (remove xs) same
drop_remove (suc n) i zero xs e = absurd (omega (arith, e))
drop_remove (suc n) i (suc k) [] e = none_removed i
drop_remove (suc n) i (suc k) (x ∷ xs) e = drop_remove n i k xs (omega (arith, e))

-- so many move up by one
pub moved : {A : Type 0} (gap count k : ℕ) (xs : List A) → gap + count < length xs → k ≡ count → drop (gap + 1) (paste xs (gap + 1) (drop gap xs) k) ≡ remove (drop gap xs) count
moved gap count k xs h e =
    let next : gap + 1 + count ≡ gap + suc count = omega arith in
    ap (drop (gap + 1)) (append_assoc (take (gap + 1) xs) (take k (drop gap xs)) (drop (gap + 1 + k) xs))
    ∙ past_front (gap + 1) xs _ (omega (arith, h))
    ∙ (λ i. take (e i) (drop gap xs) ++ drop (gap + 1 + e i) xs)
    ∙ ap (λ n. take count (drop gap xs) ++ drop n xs) next
    ∙ ap (λ ys. take count (drop gap xs) ++ ys) (sym (drop-drop (suc count) gap xs))
