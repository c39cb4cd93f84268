-- A text that is trimmed from its end.
use Rattle.std.proofs.Common.{◌≡◌, ℕ, zero, suc, true, false, cond, List, [], ◌∷◌, length, take, get_or, ap, arith}
use Rattle.gt_text.specs.Words.{is_blank}
use Rattle.policy_words.specs.Rests.{trimmed}

pub trimmed_blank : (text : List ℕ) (n : ℕ) → length text ≡ suc n → is_blank (get_or text n 0) ≡ true → trimmed text ≡ trimmed (take n text)
trimmed_blank [] n len h = absurd (omega (arith, len))
trimmed_blank (b ∷ []) zero len h = ap (λ t. cond t [] (b ∷ [])) h
trimmed_blank (b ∷ []) (suc n) len h = absurd (omega (arith, len))
trimmed_blank (b ∷ c ∷ cs) zero len h = absurd (omega (arith, len))
trimmed_blank (b ∷ c ∷ cs) (suc n) len h =
    ap (λ (rest : List ℕ). elim rest as (λ _. List ℕ) [ [] ↦ cond (is_blank b) [] (b ∷ []) | c ∷ cs ↦ b ∷ c ∷ cs ]) (trimmed_blank (c ∷ cs) n (omega (arith, len)) h)

pub trimmed_end : (text : List ℕ) (n : ℕ) → length text ≡ suc n → is_blank (get_or text n 0) ≡ false → trimmed text ≡ text
trimmed_end [] n len h = absurd (omega (arith, len))
trimmed_end (b ∷ []) zero len h = ap (λ t. cond t [] (b ∷ [])) h
trimmed_end (b ∷ []) (suc n) len h = absurd (omega (arith, len))
trimmed_end (b ∷ c ∷ cs) zero len h = absurd (omega (arith, len))
trimmed_end (b ∷ c ∷ cs) (suc n) len h =
    ap (λ (rest : List ℕ). elim rest as (λ _. List ℕ) [ [] ↦ cond (is_blank b) [] (b ∷ []) | c ∷ cs ↦ b ∷ c ∷ cs ]) (trimmed_end (c ∷ cs) n (omega (arith, len)) h)
