-- Tests that clash, places in lists, and elements of filtered, joined and mapped lists.
use Rattle.std.proofs.Common.{◌≡◌, zero, suc, Bool, true, false, cond, not, ◌⊎◌, inl, inr, List, [], ◌∷◌, ◌++◌, map, filter, Some, refl, sym, ap, subst}
use Rattle.std.specs.Option.{unwrap_or}
use Rattle.gtrbac_model.proofs.Elements.{Elem}
use Rattle.history_laws.specs.Activations.{IsIn}

pub clash : (b : Bool) → b ≡ true → b ≡ false → ⊥
clash true p q = cc
clash false p q = cc

pub not_true : (b : Bool) → not b ≡ true → b ≡ false
not_true true e = cc
not_true false e = refl

pub elem_of : {A : Type 0} (xs : List A) (x : A) → IsIn xs x → Elem xs x
elem_of [] x (n, e) = cc
elem_of (y ∷ ys) x (zero, e) = inl (sym (ap (λ o. unwrap_or o x) e))
elem_of (y ∷ ys) x (suc n, e) = inr (elem_of ys x (n, e))

pub is_in : {A : Type 0} (xs : List A) (x : A) → Elem xs x → IsIn xs x
is_in [] x m = elim m [ ]
is_in (y ∷ ys) x (inl e) = (0, ap (λ z. Some z) (sym e))
is_in (y ∷ ys) x (inr m) = let (n, e) = is_in ys x m in (suc n, e)

pub of_join : {A : Type 0} (xs ys : List A) (x : A) → Elem (xs ++ ys) x → Elem xs x ⊎ Elem ys x
of_join [] ys x m = inr m
of_join (z ∷ zs) ys x (inl e) = inl (inl e)
of_join (z ∷ zs) ys x (inr m) = elim (of_join zs ys x m) [ inl k ↦ inl (inr k) | inr k ↦ inr k ]

pub in_last : {A : Type 0} (xs : List A) (x : A) → Elem (xs ++ x ∷ []) x
in_last [] x = inl refl
in_last (z ∷ zs) x = inr (in_last zs x)

pub of_filter : {A : Type 0} (test : A → Bool) (xs : List A) (x : A) → Elem (filter test xs) x → Elem xs x × (test x ≡ true)
of_filter test [] x m = elim m [ ]
of_filter {A} test (y ∷ ys) x m = by (test y) refl (of_filter test ys x) m
  where
    by : (b : Bool) → test y ≡ b → (Elem (filter test ys) x → Elem ys x × (test x ≡ true)) → Elem (cond b (y ∷ filter test ys) (filter test ys)) x → Elem (y ∷ ys) x × (test x ≡ true)
    by true e on (inl same) = (inl same, subst (λ z. test z ≡ true) (sym same) e)
    by true e on (inr k) = let (there, passes) = on k in (inr there, passes)
    by false e on k = let (there, passes) = on k in (inr there, passes)

pub of_map : {A B : Type 0} (f : A → B) (xs : List A) (y : B) → Elem (map f xs) y → (x : A) × Elem xs x × (y ≡ f x)
of_map f [] y m = elim m [ ]
of_map f (x ∷ xs) y (inl e) = (x, inl refl, e)
of_map f (x ∷ xs) y (inr m) = let (z, k, e) = of_map f xs y m in (z, inr k, e)
