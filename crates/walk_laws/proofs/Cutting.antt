-- A walk of more arcs than there are repeats one, and what lies between can be cut out.
use Rattle.std.proofs.Common.{◌≡◌, ℕ, zero, suc, ◌<◌, ◌≤◌, ◌⊎◌, inl, inr, Bool, true, false, ◌||◌, eqb, List, [], ◌∷◌, ◌++◌, length, Some, refl, sym, ap, subst, arith, length-append}
use Rattle.std.specs.List.{list_any, IsDistinct, AllByRecursion}
use Rattle.std.proofs.lemmas.Bool.{eqb-true, false≢true}
use Rattle.std.proofs.lemmas.Map.Steps.{length-le_from_distinct_below}
use Rattle.gtrbac_model.specs.Graph.{Arc, LeadsAlong, item_at}
use Rattle.walk_laws.proofs.Orders.{one_item}

-- the list has the number twice
record Repeat (xs : List ℕ) : Type 0 where
  front : List ℕ
  twice : ℕ
  middle : List ℕ
  rest : List ℕ
  is : xs ≡ front ++ twice ∷ (middle ++ twice ∷ rest)

-- the number, with what stands before and after
record Holds (x : ℕ) (xs : List ℕ) : Type 0 where
  before : List ℕ
  after : List ℕ
  is : xs ≡ before ++ x ∷ after

holds : (x : ℕ) (xs : List ℕ) → list_any (eqb x) xs ≡ true → Holds x xs
holds x [] h = cc
holds x (y ∷ ys) h = go (eqb x y) refl h (holds x ys)
  where
    go : (b : Bool) → eqb x y ≡ b → (b || list_any (eqb x) ys) ≡ true → (list_any (eqb x) ys ≡ true → Holds x ys) → Holds x (y ∷ ys)
    go true q h f = record { before = []; after = ys; is = ap (λ z. z ∷ ys) (sym (eqb-true x y q)) }
    go false q h f = let k = f h in record { before = y ∷ k.before; after = k.after; is = ap (λ zs. y ∷ zs) k.is }

all_other : (x : ℕ) (xs : List ℕ) → list_any (eqb x) xs ≡ false → AllByRecursion (λ y. eqb x y ≡ false) xs
all_other x [] h = tt
all_other x (y ∷ ys) h = go (eqb x y) refl h (all_other x ys)
  where
    go : (b : Bool) → eqb x y ≡ b → (b || list_any (eqb x) ys) ≡ false → (list_any (eqb x) ys ≡ false → AllByRecursion (λ z. eqb x z ≡ false) ys) → AllByRecursion (λ z. eqb x z ≡ false) (y ∷ ys)
    go true q h f = absurd (false≢true (sym h))
    go false q h f = (q, f h)

distinct_or_repeat : (xs : List ℕ) → IsDistinct eqb xs ⊎ Repeat xs
unfolding IsDistinct
distinct_or_repeat [] = inl tt
distinct_or_repeat (x ∷ xs) = go (list_any (eqb x) xs) refl (distinct_or_repeat xs)
  where
    go : (b : Bool) → list_any (eqb x) xs ≡ b → IsDistinct eqb xs ⊎ Repeat xs → IsDistinct eqb (x ∷ xs) ⊎ Repeat (x ∷ xs)
    go true q w = let h = holds x xs q in inr (record { front = []; twice = x; middle = h.before; rest = h.after; is = ap (λ zs. x ∷ zs) h.is })
    go false q (inl d) = inl (all_other x xs q, d)
    go false q (inr r) = inr (record { front = x ∷ r.front; twice = r.twice; middle = r.middle; rest = r.rest; is = ap (λ zs. x ∷ zs) r.is })

module _ {N : Type 0} (arcs : List (Arc N)) where
  -- a walk in two parts
  pub record Parts (a : N) (ns ms : List ℕ) (b : N) : Type 0 where
    pub mid : N
    pub one : LeadsAlong arcs a ns mid
    pub two : LeadsAlong arcs mid ms b

  pub parts : (a : N) (ns ms : List ℕ) (b : N) → LeadsAlong arcs a (ns ++ ms) b → Parts a ns ms b
  parts a [] ms b w = record { mid = a; one = refl; two = w }
  parts a (n ∷ ns) ms b (e, is, open_, from, rest) =
      let p = parts e.to ns ms b rest in
      record { mid = p.mid; one = (e, is, open_, from, p.one); two = p.two }

  pub joined : (a : N) (ns ms : List ℕ) (b c : N) → LeadsAlong arcs a ns b → LeadsAlong arcs b ms c → LeadsAlong arcs a (ns ++ ms) c
  joined a [] ms b c w v = subst (λ z. LeadsAlong arcs z ms c) (sym w) v
  joined a (n ∷ ns) ms b c (e, is, open_, from, rest) v = (e, is, open_, from, joined e.to ns ms b c rest v)

  -- what lies between two uses of one arc is cut out
  cut : (a b : N) (front : List ℕ) (x : ℕ) (middle rest : List ℕ) → LeadsAlong arcs a (front ++ x ∷ (middle ++ x ∷ rest)) b → LeadsAlong arcs a (front ++ x ∷ rest) b
  cut a b front x middle rest w =
      let p = parts a front (x ∷ (middle ++ x ∷ rest)) b w in
      let (e, is, open_, from, more) = p.two in
      let q = parts e.to middle (x ∷ rest) b more in
      let (f, isf, _, _, last) = q.two in
      let same : f ≡ e = one_item arcs x f e isf is in
      joined a front (x ∷ rest) p.mid b p.one (e, is, open_, from, subst (λ z. LeadsAlong arcs z.to rest b) same last)

  -- each number of a walk is that of an arc
  within : (a b : N) (ns : List ℕ) → LeadsAlong arcs a ns b → (q : ℕ) → list_any (eqb q) ns ≡ true → q < length arcs
  within a b [] w q h = absurd (false≢true h)
  within a b (n ∷ ns) (e, is, _, _, rest) q h = go (eqb q n) refl h (within e.to b ns rest q)
    where
      item_within : (xs : List (Arc N)) (n : ℕ) (x : Arc N) → item_at xs n ≡ Some x → n < length xs
      item_within [] n e h = cc
      item_within (x ∷ xs) zero e h = omega arith
      item_within (x ∷ xs) (suc n) e h = let k : n < length xs = item_within xs n e h in omega arith

      go : (c : Bool) → eqb q n ≡ c → (c || list_any (eqb q) ns) ≡ true → (list_any (eqb q) ns ≡ true → q < length arcs) → q < length arcs
      go true z h f = subst (λ k. k < length arcs) (sym (eqb-true q n z)) (item_within arcs n e is)
      go false z h f = f h

  -- a walk that is no longer than there are arcs
  pub record Short (a b : N) : Type 0 where
    pub numbers : List ℕ
    pub few : length numbers ≤ length arcs
    pub leads : LeadsAlong arcs a numbers b

  shorten : (fuel : ℕ) (a b : N) (ns : List ℕ) → length ns ≤ fuel → LeadsAlong arcs a ns b → Short a b
  shorten zero a b ns le w = record { numbers = ns; few = below _ _ le; leads = w }
    where
      below : (n m : ℕ) → n ≤ 0 → n ≤ m
      below n m h = omega arith
  shorten (suc fuel) a b ns le w =
      elim (distinct_or_repeat ns) [
        | inl d ↦ record { numbers = ns; few = length-le_from_distinct_below ns (length arcs) d (within a b ns w); leads = w }
        | inr r ↦
            shorten fuel a b (r.front ++ r.twice ∷ r.rest) (shorter r.front r.middle r.rest r.twice (subst (λ xs. length xs ≤ suc fuel) r.is le))
            (cut a b r.front r.twice r.middle r.rest (subst (λ xs. LeadsAlong arcs a xs b) r.is w))
      ]
    where
      shorter : (front middle rest : List ℕ) (x : ℕ) → length (front ++ x ∷ (middle ++ x ∷ rest)) ≤ suc fuel → length (front ++ x ∷ rest) ≤ fuel
      shorter front middle rest x h =
          omega (arith, length-append front (x ∷ (middle ++ x ∷ rest)), length-append middle (x ∷ rest), length-append front (x ∷ rest), h)

  -- where a walk leads, one leads that is no longer than there are arcs
  pub short : (a b : N) (ns : List ℕ) → LeadsAlong arcs a ns b → Short a b
  short a b ns w = shorten (length ns) a b ns (omega arith) w
