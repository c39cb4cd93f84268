-- Lists of passes, for whoever hands passes out and takes them back.
use Rattle.std.proofs.Common.{◌≡◌, ◌⊎◌, ℕ, zero, suc, ◌+◌, ◌<◌, List, [], ◌∷◌, ◌++◌, map, reverse, length, sym, refl, ap, ◌∙◌, subst, ⊎_elim, inl, inr, arith}
use mathlib.Core.List.{reverse-cons, map-append}
use Rattle.gt_base.specs.declared.requests.Entry.{Entry}
use Rattle.turn_lock.specs.Turns.{Each}
use Rattle.turn_lock.specs.Holders.{Lock, Holder, site_of, HasNumber, AreIdle, newcomers}
use Rattle.turn_lock.proofs.Totals.{each-append, each_left, each_right}

module _ {A : Type 0} where
  pub each_reverse : (P : A → Type 0) (xs : List A) → Each P xs → Each P (reverse xs)
  each_reverse P [] e = tt
  each_reverse P (x ∷ xs) e = subst (Each P) (sym (reverse-cons x xs)) (each-append P (reverse xs) (x ∷ []) (each_reverse P xs e.1) (e.0, tt))

  pub each_unreverse : (P : A → Type 0) (xs : List A) → Each P (reverse xs) → Each P xs
  each_unreverse P [] e = tt
  each_unreverse P (x ∷ xs) e = let t = subst (Each P) (reverse-cons x xs) e in ((each_right P (reverse xs) (x ∷ []) t).0, each_unreverse P xs (each_left P (reverse xs) (x ∷ []) t))

abbrev IsIn : ℕ → List ℕ → Type 0
IsIn n [] = ⊥
IsIn n (k ∷ ks) = (k ≡ n) ⊎ IsIn n ks

module _ {M : Type 0} where
  abbrev pub numbers : List (Holder M) → List ℕ
  numbers ps = map (λ (p : Holder M). p.number) ps

  pub numbers_reverse : (ps : List (Holder M)) → numbers (reverse ps) ≡ reverse (numbers ps)
  numbers_reverse [] = refl
  numbers_reverse (p ∷ ps) =
      ap numbers (reverse-cons p ps) ∙ (map-append (λ (q : Holder M). q.number) (reverse ps) (p ∷ []) ∙ (ap (λ (l : List ℕ). l ++ p.number ∷ []) (numbers_reverse ps) ∙ sym (reverse-cons p.number (numbers ps))))

  in_of : (n : ℕ) (ps : List (Holder M)) → HasNumber n ps → IsIn n (numbers ps)
  in_of n [] h = h
  in_of n (p ∷ ps) h = ⊎_elim (λ (e : p.number ≡ n). inl e) (λ (e : HasNumber n ps). inr (in_of n ps e)) h

  of_in : (n : ℕ) (ps : List (Holder M)) → IsIn n (numbers ps) → HasNumber n ps
  of_in n [] h = h
  of_in n (p ∷ ps) h = ⊎_elim (λ (e : p.number ≡ n). inl e) (λ (e : IsIn n (numbers ps)). inr (of_in n ps e)) h

  -- lists with the same numbers lack the same passes
  pub has_same : (n : ℕ) (ps qs : List (Holder M)) → numbers ps ≡ numbers qs → HasNumber n ps → HasNumber n qs
  has_same n ps qs e h = of_in n qs (subst (IsIn n) e (in_of n ps h))

  has_new : (l : Lock M) (first : List Entry) (k n m : ℕ) → k + m < k + n → HasNumber (k + m) (newcomers l first k n)
  has_new l first k zero m low = absurd (omega arith)
  has_new l first k (suc n) zero low = inl (let e : k ≡ k + zero = omega arith in e)
  has_new l first k (suc n) (suc m) low = inr (subst (λ (j : ℕ). HasNumber j (newcomers l first (suc k) n)) (let e : suc k + m ≡ k + suc m = omega arith in e) (has_new l first (suc k) n m (omega arith)))

  idle_new : (l : Lock M) (first : List Entry) (k n : ℕ) → AreIdle (site_of l) (newcomers l first k n)
  idle_new l first k zero = tt
  idle_new l first k (suc n) = ((refl, refl), idle_new l first (suc k) n)

  pub length_new : (l : Lock M) (first : List Entry) (k n : ℕ) → length (newcomers l first k n) ≡ n
  length_new l first k zero = refl
  length_new l first k (suc n) = ap suc (length_new l first (suc k) n)

  -- the passes of a new lock are idle, and none is missing
  pub new_all : (l : Lock M) (first : List Entry) (n : ℕ) (ps : List (Holder M)) → ps ≡ newcomers l first 0 n → AreIdle (site_of l) ps × ((m : ℕ) → m < n → HasNumber m ps)
  new_all l first n ps is = (
    subst (AreIdle (site_of l)) (sym is) (idle_new l first 0 n),
    λ m low. subst (HasNumber m) (sym is) (subst (λ (j : ℕ). HasNumber j (newcomers l first 0 n)) (let e : 0 + m ≡ m = omega arith in e) (has_new l first 0 n m (omega arith))),
  )
