-- The `==` of two names is that of their bytes.
use Rattle.std.proofs.Common.{◌≡◌, ℕ, ◌-◌, Bool, true, false, ◌&&◌, ◌||◌, eqb, List, [], ◌∷◌, ◌++◌, length, take, replicate, refl, sym, ap, ◌∙◌}
use Rattle.std.specs.Prelude.{bytes_eq}
use Rattle.std.specs.Bool.{Decides}
use Rattle.std.specs.Cmp.{both_ways}
use Rattle.std.specs.List.{list_any}
use Rattle.std.specs.Cmp.Lexicographic.{pointwise}
use Rattle.std.proofs.lemmas.Bool.{false≢true}
use Rattle.std.proofs.lemmas.Bool.Decides.{Decides-eqb}
use Rattle.std.proofs.lemmas.List.{take_at}
use Rattle.std.proofs.lemmas.Slice.Eq.{slice_eq-Decides}
use Rattle.gt_base.specs.contracts.names.NamePartialEq.TheImpl.{eq-value}

-- what the derived `==` computes
abbrev pub name_eq : List ℕ → List ℕ → Bool
name_eq = (eq-value).it

abbrev stored : List ℕ → List ℕ
stored name = name ++ replicate (32 - length name) 0

both_true : (a b : Bool) → (a && b) ≡ true → (a ≡ true) × (b ≡ true)
both_true true b h = (refl, h)
both_true false b h = absurd (false≢true h)

bytes_decide : (a b : List ℕ) → Decides (pointwise eqb a b) (a ≡ b)
bytes_decide a b = slice_eq-Decides Decides-eqb a b (pointwise eqb a b) refl

pub one_name : (a b : List ℕ) → name_eq a b ≡ true → a ≡ b
one_name a b h =
    let parts = both_true (pointwise eqb (stored a) (stored b)) (eqb (length a) (length b)) h in
    let same = (bytes_decide (stored a) (stored b)).0 parts.0 in
    let len = (Decides-eqb (length a) (length b)).0 parts.1 in
    sym (take_at a (replicate (32 - length a) 0) (length a) refl) ∙ ap (take (length a)) same ∙ take_at b (replicate (32 - length b) 0) (length a) (sym len)

itself : (a b : List ℕ) → a ≡ b → name_eq a b ≡ true
itself a b e =
    ap (name_eq a) (sym e)
    ∙ ap (λ p. p && eqb (length a) (length a)) ((bytes_decide (stored a) (stored a)).1 refl) ∙ (Decides-eqb (length a) (length a)).1 refl

pub same_names : (a b : List ℕ) → name_eq a b ≡ bytes_eq a b
same_names a b = both_ways _ _ (λ h. (bytes_decide a b).1 (one_name a b h)) (λ h. itself a b ((bytes_decide a b).0 h))

pub any_same : {A : Type 0} (p q : A → Bool) → ((x : A) → p x ≡ q x) → (xs : List A) → list_any p xs ≡ list_any q xs
any_same p q same [] = refl
any_same p q same (x ∷ xs) = λ i. same x i || any_same p q same xs i
