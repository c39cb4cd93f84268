-- The order of walks: at most one is the least.
use Rattle.std.proofs.Common.{◌≡◌, ℕ, ◌≤◌, inl, inr, true, false, List, [], ◌∷◌, Some, refl, sym, ◌∙◌, ap, subst, arith}
use Rattle.std.specs.Ordering.{nat_cmp, is_le, ordering_then}
use Rattle.std.specs.Cmp.{nat_cmp_is}
use Rattle.std.specs.Cmp.Lexicographic.{slice_cmp}
use Rattle.std.specs.declared.cmp.Ordering.TheVariants.{Equal, Greater}
use Rattle.std.proofs.lemmas.Bool.{cases_order}
use Rattle.gtrbac_model.specs.Graph.{Path, NotAfter, item_at}
use Rattle.gtrbac_model.specs.Cycles.{Closes, NotLonger}
use Rattle.walk_laws.specs.Laws.{OneLeastWalk, OneLeastCycle}

-- not after each other: the same numbers
pub same_numbers : (p q : List ℕ) → is_le (slice_cmp nat_cmp p q) ≡ true → is_le (slice_cmp nat_cmp q p) ≡ true → p ≡ q
same_numbers [] [] h k = refl
same_numbers [] (y ∷ ys) h k = cc
same_numbers (x ∷ xs) [] h k = cc
same_numbers (x ∷ xs) (y ∷ ys) h k =
    elim (cases_order x y) [
      | inl e ↦
          let h' : is_le (slice_cmp nat_cmp xs ys) ≡ true = ap (λ r. is_le (ordering_then r (slice_cmp nat_cmp xs ys))) (nat_cmp_is x y Equal e) ∙ h in
          let k' : is_le (slice_cmp nat_cmp ys xs) ≡ true = ap (λ r. is_le (ordering_then r (slice_cmp nat_cmp ys xs))) (nat_cmp_is y x Equal (sym e)) ∙ k in
          let rest = same_numbers xs ys h' k' in
          ap (λ z. z ∷ xs) e ∙ ap (λ zs. y ∷ zs) rest
      | inr w ↦ elim w [
        | inl lt ↦ absurd (never (ap (λ r. is_le (ordering_then r (slice_cmp nat_cmp ys xs))) (nat_cmp_is y x Greater lt) ∙ k))
        | inr gt ↦ absurd (never (ap (λ r. is_le (ordering_then r (slice_cmp nat_cmp xs ys))) (nat_cmp_is x y Greater gt) ∙ h))
      ]
    ]
  where
    never : false ≡ true → ⊥
    never e = cc

pub one_item : {A : Type 0} (xs : List A) (n : ℕ) (x y : A) → item_at xs n ≡ Some x → item_at xs n ≡ Some y → x ≡ y
one_item xs n x y p q = let e : Some x ≡ Some y = sym p ∙ q in cc

-- not after each other: the same place and the same numbers
both_ways : {N : Type 0} (i j : ℕ) (p q : Path N) → NotAfter i p j q → NotAfter j q i p → (i ≡ j) × (p.arcs ≡ q.arcs)
both_ways i j p q (inl h) (inl k) = absurd (omega arith)
both_ways i j p q (inl h) (inr (k, _)) = absurd (omega arith)
both_ways i j p q (inr (h, _)) (inl k) = absurd (omega arith)
both_ways i j p q (inr (_, inl h)) (inr (_, inl k)) = absurd (omega arith)
both_ways i j p q (inr (_, inl h)) (inr (_, inr (k, _))) = absurd (omega arith)
both_ways i j p q (inr (_, inr (h, _))) (inr (_, inl k)) = absurd (omega arith)
both_ways i j p q (inr (_, inr (e, h))) (inr (_, inr (_, k))) = (e, same_numbers p.arcs q.arcs h k)

same_path : {N : Type 0} (p q : Path N) → p.start ≡ q.start → p.arcs ≡ q.arcs → p ≡ q
same_path p q e f = λ i. record { start = e i; arcs = f i }

pub one_least_walk : {N : Type 0} → OneLeastWalk N
one_least_walk arcs goal starts p q a b =
    let (e, numbers) = both_ways a.place b.place p q (a.least b.place q b.is_walk) (b.least a.place p a.is_walk) in
    same_path p q (one_item starts b.place p.start q.start (ap (item_at starts) (sym e) ∙ a.is_walk.from_start) b.is_walk.from_start) numbers

pub one_least_cycle : {N : Type 0} → OneLeastCycle N
one_least_cycle arcs marked p q a b =
    let e : a.first ≡ b.first = both a.first b.first (a.earliest b.first b.back b.closes) (b.earliest a.first a.back a.closes) in
    let k : a.back ≡ b.back = same_back a.back b.back
    (a.shortest b.back (subst (λ n. Closes arcs marked n b.back) (sym e) b.closes))
    (b.shortest a.back (subst (λ n. Closes arcs marked n a.back) e a.closes)) in
    a.is ∙ ap (λ n. n ∷ a.back) e ∙ ap (λ ns. b.first ∷ ns) k ∙ sym b.is
  where
    both : (a b : ℕ) → a ≤ b → b ≤ a → a ≡ b
    both a b h k = omega arith

    same_back : (p q : List ℕ) → NotLonger p q → NotLonger q p → p ≡ q
    same_back p q (inl h) (inl k) = absurd (omega arith)
    same_back p q (inl h) (inr (k, _)) = absurd (omega arith)
    same_back p q (inr (h, _)) (inl k) = absurd (omega arith)
    same_back p q (inr (_, h)) (inr (_, k)) = same_numbers p q h k
