-- The items of a list in which one was changed, or to which one was added.
use Rattle.std.proofs.Common.{◌≡◌, ◌≢◌, ◌⊎◌, ℕ, ◌<◌, List, [], ◌∷◌, ◌++◌, length, set, get_or, slice_get, sym, ap, ◌∙◌, arith, length-append, inl, inr, Some}
use Rattle.std.proofs.lemmas.List.{get_or-set_same, get_or-set_other, get_or_append_left, length-set}
use Rattle.std.proofs.lemmas.Option.{slice_get_within, slice_get-get_or, get_or_from_slice_get}
use Rattle.std.proofs.Math.Seq.{get_or-append_seam}
use mathlib.Core.Logic.{dite}
use native.Mathlib.Decide.{ℕ_discrete, dec_lt}

pub set_cases : {A : Type 0} (xs : List A) (i j : ℕ) (y s : A) → i < length xs → slice_get (set xs i y) j ≡ Some s → ((j ≡ i) × (s ≡ y)) ⊎ ((j ≢ i) × (slice_get xs j ≡ Some s))
set_cases {A} xs i j y s low e =
    let at : get_or (set xs i y) j s ≡ s = get_or_from_slice_get (set xs i y) j s s e in
    let within = slice_get_within (set xs i y) j s e in
    let long = length-set xs i y in
    dite (ℕ_discrete j i) (λ here. inl (here, sym at ∙ ap (λ (k : ℕ). get_or (set xs i y) k s) here ∙ get_or-set_same xs i y s low)) (λ away.
    inr (away, slice_get-get_or xs j s (omega (arith, within, long)) ∙ ap Some (sym (get_or-set_other xs i j y s away) ∙ at)))

pub push_cases : {A : Type 0} (xs : List A) (j : ℕ) (y s : A) → slice_get (xs ++ y ∷ []) j ≡ Some s → ((j ≡ length xs) × (s ≡ y)) ⊎ ((j < length xs) × (slice_get xs j ≡ Some s))
push_cases {A} xs j y s e =
    let at : get_or (xs ++ y ∷ []) j s ≡ s = get_or_from_slice_get (xs ++ y ∷ []) j s s e in
    let within = slice_get_within (xs ++ y ∷ []) j s e in
    let long = length-append xs (y ∷ []) in
    dite (dec_lt j (length xs)) (λ low. inr (low, slice_get-get_or xs j s low ∙ ap Some (sym (get_or_append_left xs (y ∷ []) s j low) ∙ at))) (λ high.
    let here : j ≡ length xs = omega (arith, within, long, high) in
    inl (here, sym at ∙ ap (λ (k : ℕ). get_or (xs ++ y ∷ []) k s) here ∙ get_or-append_seam xs y [] s))
