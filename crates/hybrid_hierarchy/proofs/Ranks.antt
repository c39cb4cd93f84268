-- The order of walks: by length, by start, by numbers.
use Rattle.std.proofs.Common.{◌≡◌, ℕ, ◌+◌, ◌<◌, ◌⊎◌, inl, inr, true, List, [], ◌∷◌, ◌++◌, length, refl, sym, ◌∙◌, ap, subst, arith, append-nil}
use Rattle.std.specs.Ordering.{nat_cmp, is_le, ordering_then}
use Rattle.std.specs.Cmp.{nat_cmp_is}
use Rattle.std.specs.declared.cmp.Ordering.TheVariants.{Less, Equal}
use Rattle.std.specs.Cmp.Lexicographic.{slice_cmp}
use Rattle.hybrid_hierarchy.specs.Searches.{Lesser, Before, NotLater}

pub length_push : (xs : List ℕ) (y : ℕ) → length (xs ++ y ∷ []) ≡ length xs + 1
length_push [] y = refl
length_push (x ∷ xs) y = let k : length (xs ++ y ∷ []) ≡ length xs + 1 = length_push xs y in omega (arith, k)

lesser_through : (xs ys zs : List ℕ) → Lesser xs ys → Lesser ys zs → Lesser xs zs
lesser_through [] ys zs p q = absurd p
lesser_through (x ∷ xs) [] zs p q = absurd p
lesser_through (x ∷ xs) (y ∷ ys) [] p q = absurd q
lesser_through (x ∷ xs) (y ∷ ys) (z ∷ zs) (inl a) (inl b) = inl (omega (arith, a, b))
lesser_through (x ∷ xs) (y ∷ ys) (z ∷ zs) (inl a) (inr b) = inl (subst (λ k. x < k) b.0 a)
lesser_through (x ∷ xs) (y ∷ ys) (z ∷ zs) (inr a) (inl b) = inl (subst (λ k. k < z) (sym a.0) b)
lesser_through (x ∷ xs) (y ∷ ys) (z ∷ zs) (inr a) (inr b) = inr (a.0 ∙ b.0, lesser_through xs ys zs a.1 b.1)

-- going on keeps the order
lesser_on : (xs ys as' bs : List ℕ) → Lesser xs ys → Lesser (xs ++ as') (ys ++ bs)
lesser_on [] ys as' bs p = absurd p
lesser_on (x ∷ xs) [] as' bs p = absurd p
lesser_on (x ∷ xs) (y ∷ ys) as' bs (inl a) = inl a
lesser_on (x ∷ xs) (y ∷ ys) as' bs (inr a) = inr (a.0, lesser_on xs ys as' bs a.1)

lesser_own : (xs : List ℕ) (m n : ℕ) → m < n → Lesser (xs ++ m ∷ []) (xs ++ n ∷ [])
lesser_own [] m n h = inl h
lesser_own (x ∷ xs) m n h = inr (refl, lesser_own xs m n h)

lesser_cmp : (xs ys : List ℕ) → Lesser xs ys → is_le (slice_cmp nat_cmp xs ys) ≡ true
lesser_cmp [] ys p = absurd p
lesser_cmp (x ∷ xs) [] p = absurd p
lesser_cmp (x ∷ xs) (y ∷ ys) (inl a) = ap (λ r. is_le (ordering_then r (slice_cmp nat_cmp xs ys))) (sym (nat_cmp_is x y Less a))
lesser_cmp (x ∷ xs) (y ∷ ys) (inr a) = ap (λ r. is_le (ordering_then r (slice_cmp nat_cmp xs ys))) (sym (nat_cmp_is x y Equal a.0)) ∙ lesser_cmp xs ys a.1

same_cmp : (xs : List ℕ) → is_le (slice_cmp nat_cmp xs xs) ≡ true
same_cmp [] = refl
same_cmp (x ∷ xs) = ap (λ r. is_le (ordering_then r (slice_cmp nat_cmp xs xs))) (sym (nat_cmp_is x x Equal refl)) ∙ same_cmp xs

pub before_through : (i j k : ℕ) (xs ys zs : List ℕ) → Before i xs j ys → Before j ys k zs → Before i xs k zs
before_through i j k xs ys zs (inl a) (inl b) = inl (omega (arith, a, b))
before_through i j k xs ys zs (inl a) (inr b) = inl (subst (λ n. length xs < n) b.0 a)
before_through i j k xs ys zs (inr a) (inl b) = inl (subst (λ n. n < length zs) (sym a.0) b)
before_through i j k xs ys zs (inr (e, inl a)) (inr (f, inl b)) = inr (e ∙ f, inl (omega (arith, a, b)))
before_through i j k xs ys zs (inr (e, inl a)) (inr (f, inr b)) = inr (e ∙ f, inl (subst (λ n. i < n) b.0 a))
before_through i j k xs ys zs (inr (e, inr a)) (inr (f, inl b)) = inr (e ∙ f, inl (subst (λ n. n < k) (sym a.0) b))
before_through i j k xs ys zs (inr (e, inr a)) (inr (f, inr b)) = inr (e ∙ f, inr (a.0 ∙ b.0, lesser_through xs ys zs a.1 b.1))

pub not_later_through : (i j k : ℕ) (xs ys zs : List ℕ) → NotLater i xs j ys → NotLater j ys k zs → NotLater i xs k zs
not_later_through i j k xs ys zs (inl a) (inl b) = inl (a.0 ∙ b.0, a.1 ∙ b.1)
not_later_through i j k xs ys zs (inl a) (inr b) = inr (subst (λ n. Before n xs k zs) (sym a.0) (subst (λ us. Before j us k zs) (sym a.1) b))
not_later_through i j k xs ys zs (inr a) (inl b) = inr (subst (λ n. Before i xs n zs) b.0 (subst (λ us. Before i xs j us) b.1 a))
not_later_through i j k xs ys zs (inr a) (inr b) = inr (before_through i j k xs ys zs a b)

-- going on by an edge each keeps the order
pub before_push : (i j m n : ℕ) (xs ys : List ℕ) → Before i xs j ys → Before i (xs ++ m ∷ []) j (ys ++ n ∷ [])
before_push i j m n xs ys (inl a) = inl (omega (arith, length_push xs m, length_push ys n, a))
before_push i j m n xs ys (inr (e, inl a)) = inr (length_push xs m ∙ ap (λ k. k + 1) e ∙ sym (length_push ys n), inl a)
before_push i j m n xs ys (inr (e, inr a)) = inr (length_push xs m ∙ ap (λ k. k + 1) e ∙ sym (length_push ys n), inr (a.0, lesser_on xs ys (m ∷ []) (n ∷ []) a.1))

pub before_own : (i m n : ℕ) (xs : List ℕ) → m < n → Before i (xs ++ m ∷ []) i (xs ++ n ∷ [])
before_own i m n xs h = inr (length_push xs m ∙ sym (length_push xs n), inr (refl, lesser_own xs m n h))

pub before_more : (i j n : ℕ) (ys : List ℕ) → Before i [] j (ys ++ n ∷ [])
before_more i j n ys = inl (omega (arith, length_push ys n))

pub not_later_push : (i j n : ℕ) (xs ys : List ℕ) → NotLater i xs j ys → NotLater i (xs ++ n ∷ []) j (ys ++ n ∷ [])
not_later_push i j n xs ys (inl a) = inl (a.0, ap (λ us. us ++ n ∷ []) a.1)
not_later_push i j n xs ys (inr a) = inr (before_push i j n n xs ys a)

longer : (xs : List ℕ) (y : ℕ) (ys : List ℕ) → length xs < length (xs ++ y ∷ ys)
longer [] y ys = omega arith
longer (x ∷ xs) y ys = let k : length xs < length (xs ++ y ∷ ys) = longer xs y ys in omega (arith, k)

-- a walk that goes on is later
pub not_later_on : (i j : ℕ) (xs ys : List ℕ) (n : ℕ) (ns : List ℕ) → NotLater i xs j ys → NotLater i xs j (ys ++ n ∷ ns)
not_later_on i j xs ys n ns h = not_later_through i j j xs ys (ys ++ n ∷ ns) h (inr (inl (longer ys n ns)))

pub not_later_rest : (i j : ℕ) (xs ys ns : List ℕ) → NotLater i xs j ys → NotLater i xs j (ys ++ ns)
not_later_rest i j xs ys [] h = subst (NotLater i xs j) (sym (append-nil ys)) h
not_later_rest i j xs ys (n ∷ ns) h = not_later_on i j xs ys n ns h

-- in the model's words
pub in_order : (i j : ℕ) (xs ys : List ℕ) → NotLater i xs j ys → (length xs < length ys) ⊎ ((length xs ≡ length ys) × ((i < j) ⊎ ((i ≡ j) × (is_le (slice_cmp nat_cmp xs ys) ≡ true))))
in_order i j xs ys (inl a) = inr (ap length a.1, inr (a.0, subst (λ us. is_le (slice_cmp nat_cmp xs us) ≡ true) a.1 (same_cmp xs)))
in_order i j xs ys (inr (inl a)) = inl a
in_order i j xs ys (inr (inr (e, inl a))) = inr (e, inl a)
in_order i j xs ys (inr (inr (e, inr a))) = inr (e, inr (a.0, lesser_cmp xs ys a.1))
