-- Numbers of activations, as one is taken out of the row, or those that fail a test.
use Rattle.std.proofs.Common.{◌≡◌, ℕ, zero, suc, ◌+◌, ◌<◌, ◌≤◌, Bool, true, false, ◌&&◌, cond, List, [], ◌∷◌, ◌++◌, length, take, drop, filter, count_by, get_or, Some, refl, sym, ap, ◌∙◌, append_assoc, arith}
use Rattle.std.specs.List.{slice_get, remove}
use Rattle.std.proofs.lemmas.List.{append-nil, drop_more, drop_all, take_all}
use Rattle.std.proofs.lemmas.Bool.{eq-eqb}
use Rattle.std.proofs.lemmas.List.Elements.{filter_more}
use Rattle.std.proofs.lemmas.List.Sums.{sum_by-append, sum_by-cons, sum_by-remove}
use Rattle.gtrbac_model.specs.Sessions.{Activation, is_of}
use Rattle.session_table.specs.declared.counting.Holder.{Holder}
use Rattle.session_table.specs.Counting.{AreCounted, counted, is_by}

got : {A : Type 0} (xs : List A) (i : ℕ) (x : A) → slice_get xs i ≡ Some x → get_or xs i x ≡ x
got [] i x e = cc
got (y ∷ ys) zero x e = cc
got (y ∷ ys) (suc i) x e = got ys i x e

within : {A : Type 0} (xs : List A) (i : ℕ) (x : A) → slice_get xs i ≡ Some x → i < length xs
within [] i x e = cc
within (y ∷ ys) zero x e = omega arith
within (y ∷ ys) (suc i) x e = let le = within ys i x e in omega (arith, le)

-- an activation is of its own user and role
pub own : (a : Activation) → is_of a.user a.role a ≡ true
own a = λ i. eq-eqb a.user.0 a.user.0 refl i && eq-eqb a.role.0 a.role.0 refl i

pub one_out : {A : Type 0} (p : A → Bool) (xs : List A) (i : ℕ) (x : A) → slice_get xs i ≡ Some x → count_by p xs ≡ count_by p (remove xs i) + cond (p x) 1 0
one_out p xs i x e =
    sym (sum_by-remove (λ x. cond (p x) 1 0) xs i x (within xs i x e)) ∙ ap (λ y. count_by p (remove xs i) + cond (p y) 1 0) (got xs i x e)

pub some_in : (n left : ℕ) (b : Bool) → n ≡ left + cond b 1 0 → b ≡ true → 1 ≤ n
some_in n left true e is = omega (arith, e)
some_in n left false e is = cc

pub same_left : (old new left k : ℕ) → old ≡ new + k → old ≡ left + k → new ≡ left
same_left old new left k a b = omega (arith, a, b)

-- what is left of a row where those of the first i that fail the test are taken out
abbrev pub rest : {A : Type 0} → (A → Bool) → List A → ℕ → List A
rest keep xs i = filter keep (take i xs) ++ drop i xs

module _ {A : Type 0} (keep : A → Bool) (xs : List A) (i : ℕ) (d : A) (low : i < length xs) where
  next : rest keep xs (i + 1) ≡ filter keep (take i xs) ++ (cond (keep (get_or xs i d)) (get_or xs i d ∷ []) [] ++ drop (i + 1) xs)
  next =
      ap (λ ys. ys ++ drop (i + 1) xs) (filter_more keep xs i d low)
      ∙ append_assoc (filter keep (take i xs)) (cond (keep (get_or xs i d)) (get_or xs i d ∷ []) []) (drop (i + 1) xs)

  pub kept_step : keep (get_or xs i d) ≡ true → rest keep xs i ≡ rest keep xs (i + 1)
  kept_step e =
      ap (λ ys. filter keep (take i xs) ++ ys) (drop_more xs i d low)
      ∙ sym (next ∙ ap (λ b. filter keep (take i xs) ++ (cond b (get_or xs i d ∷ []) [] ++ drop (i + 1) xs)) e)

  pub gone_step : (p : A → Bool) → keep (get_or xs i d) ≡ false → count_by p (rest keep xs i) ≡ count_by p (rest keep xs (i + 1)) + cond (p (get_or xs i d)) 1 0
  gone_step p e =
      let f : A → ℕ = λ x. cond (p x) 1 0 in
      let a = sum_by-append f (filter keep (take i xs)) (get_or xs i d ∷ drop (i + 1) xs) in
      let b = sum_by-cons f (get_or xs i d) (drop (i + 1) xs) in
      let c = sum_by-append f (filter keep (take i xs)) (drop (i + 1) xs) in
      let is : rest keep xs (i + 1) ≡ filter keep (take i xs) ++ drop (i + 1) xs = next ∙ ap (λ b. filter keep (take i xs) ++ (cond b (get_or xs i d ∷ []) [] ++ drop (i + 1) xs)) e in
      ap (λ ys. count_by p (filter keep (take i xs) ++ ys)) (drop_more xs i d low)
      ∙ split_sum _ _ _ _ _ a b c
      ∙ ap (λ ys. count_by p ys + cond (p (get_or xs i d)) 1 0) (sym is)
    where
      split_sum : (all front more one back : ℕ) → all ≡ front + more → more ≡ one + back → {w : ℕ} → w ≡ front + back → all ≡ w + one
      split_sum all front more one back a b c = omega (arith, a, b, c)

pub none_left : {A : Type 0} (keep : A → Bool) (xs : List A) (i : ℕ) → length xs ≤ i → rest keep xs i ≡ filter keep xs
none_left keep xs i le =
    (λ j. filter keep (take_all i xs le j) ++ drop_all i xs le j) ∙ append-nil (filter keep xs)

-- the next one, which fails the test, is counted until it is taken out
module _ (rows : List (Holder × ℕ)) (keep : Activation → Bool) (xs : List Activation) (i : ℕ) (a : Activation) (low : i < length xs) (is : a ≡ get_or xs i a) (out : keep a ≡ false) (all : AreCounted rows (rest keep xs i)) where
  gone : (h : Holder) → counted rows h ≡ count_by (is_by h.user h.role) (rest keep xs (i + 1)) + cond (is_by h.user h.role a) 1 0
  gone h =
      all h
      ∙ gone_step keep xs i a low (is_by h.user h.role) (ap keep (sym is) ∙ out)
      ∙ ap (λ (b : Activation). count_by (is_by h.user h.role) (rest keep xs (i + 1)) + cond (is_by h.user h.role b) 1 0) (sym is)

  pub still_counted : (h : Holder) → is_by h.user h.role a ≡ true → 1 ≤ counted rows h
  still_counted h by = some_in _ (count_by (is_by h.user h.role) (rest keep xs (i + 1))) (is_by h.user h.role a) (gone h) by

  pub left_counted : (new : List (Holder × ℕ)) → ((h : Holder) → counted rows h ≡ counted new h + cond (is_by h.user h.role a) 1 0) → AreCounted new (rest keep xs (i + 1))
  left_counted new less h = same_left _ _ _ (cond (is_by h.user h.role a) 1 0) (less h) (gone h)
