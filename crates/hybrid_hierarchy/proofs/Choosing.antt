-- Those of the chosen ones that are chosen again.
use Rattle.std.specs.List.{range_with_len}
use Rattle.hybrid_hierarchy.specs.Searches.{leads_on, seniors_in}
use Rattle.std.proofs.Common.{◌≡◌, ℕ, Result, Ok, Err, IfOk, Bool, true, false, ◌&&◌, cond, List, [], ◌∷◌, filter, refl, ◌∙◌, ap}

pub chosen_twice : {A : Type 0} (p q : A → Bool) (xs : List A) → filter q (filter p xs) ≡ filter (λ x. p x && q x) xs
chosen_twice p q [] = refl
chosen_twice {A} p q (x ∷ xs) = by (p x) (q x) refl (chosen_twice p q xs)
  where
    by : (a b : Bool) → q x ≡ b → filter q (filter p xs) ≡ filter (λ x. p x && q x) xs
        → filter q (cond a (x ∷ filter p xs) (filter p xs)) ≡ cond (a && b) (x ∷ filter (λ x. p x && q x) xs) (filter (λ x. p x && q x) xs)
    by true true on rest = ap (λ c. cond c (x ∷ filter q (filter p xs)) (filter q (filter p xs))) on ∙ ap (λ ys. x ∷ ys) rest
    by true false on rest = ap (λ c. cond c (x ∷ filter q (filter p xs)) (filter q (filter p xs))) on ∙ rest
    by false b on rest = rest

-- those of the roles with edges
pub of_seniors : {A E : Type 0} (r : Result A E) (items : A → List ℕ) (first seniors : List ℕ) (q : ℕ → Bool) → seniors ≡ seniors_in first → IfOk r (λ v. items v ≡ filter q seniors)
    → IfOk r (λ v. items v ≡ filter (λ x. leads_on first x && q x) (range_with_len 0 1_000))
unfolding seniors_in
of_seniors {A} {E} (Ok v) items first seniors q listed told = told ∙ ap (filter q) listed ∙ chosen_twice (leads_on first) q (range_with_len 0 1_000)
of_seniors {A} {E} (Err e) items first seniors q listed told = tt
