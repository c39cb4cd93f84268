-- The last number of a key, one item further, and what chains leave out.
use Rattle.std.proofs.Common.{◌≡◌, ◌≢◌, ℕ, zero, suc, ◌+◌, ◌%◌, ◌<◌, ◌≤◌, ◌⊎◌, inl, inr, false, List, [], ◌∷◌, ◌++◌, length, map, Some, slice_index, slice_index_or, slice_set, refl, sym, ◌∙◌, ap, subst, arith}
use Rattle.std.specs.List.{range_with_len}
use Rattle.std.proofs.lemmas.List.{get_or-set_same, get_or-set_other, length-set}
use Rattle.std.proofs.lemmas.Bool.{cases_eq, cases_lt}
use Rattle.gtrbac_model.specs.Graph.{item_at}
use Rattle.least_walk.specs.declared.graphs.GraphEdge.{GraphEdge}
use Rattle.least_walk.specs.Chains.{IsLast, AreChains}
use Rattle.least_walk.proofs.Items.{item_within, item_map, item_read, one_item, any_default}
use Rattle.least_walk.specs.declared.chains.TheConstants.{NO_EDGE}

abbrev pub edge_at : List GraphEdge → ℕ → GraphEdge
edge_at edges n = slice_index_or edges n (record { from = 0; to = 0; marked = false })

-- the chains of the first n keys
pub record Chained (keys : List ℕ) (nodes : ℕ) (last before : List ℕ) (n : ℕ) : Type 0 where
  pub nodes_are : length last ≡ nodes
  pub size : length before ≡ n
  pub lasts : (v : ℕ) → v < nodes → IsLast keys v n (slice_index last v)
  pub befores : (m v : ℕ) → m < n → item_at keys m ≡ Some v → IsLast keys v m (slice_index before m)

index_front : (xs : List ℕ) (y n : ℕ) → n < length xs → slice_index (xs ++ y ∷ []) n ≡ slice_index xs n
index_front [] y n h = absurd (omega arith)
index_front (x ∷ xs) y zero h = refl
index_front (x ∷ xs) y (suc n) h = index_front xs y n (omega arith)

index_last : (xs : List ℕ) (y : ℕ) → slice_index (xs ++ y ∷ []) (length xs) ≡ y
index_last [] y = refl
index_last (x ∷ xs) y = index_last xs y

-- no edge for each node
abbrev pub no_edges : ℕ → List ℕ
no_edges nodes = map (λ v. NO_EDGE) (range_with_len 0 nodes)

index_none : (a n v : ℕ) → v < n → slice_index (map (λ u. NO_EDGE) (range_with_len a n)) v ≡ NO_EDGE
index_none a zero v h = absurd (omega arith)
index_none a (suc n) zero h = refl
index_none a (suc n) (suc v) h = index_none (a + 1) n v (omega arith)

length_one_more : (xs : List ℕ) (y : ℕ) → length (xs ++ y ∷ []) ≡ length xs + 1
length_one_more [] y = refl
length_one_more (x ∷ xs) y = let k : length (xs ++ y ∷ []) ≡ length xs + 1 = length_one_more xs y in omega (arith, k)

length_none : (a n : ℕ) → length (map (λ u. NO_EDGE) (range_with_len a n)) ≡ n
length_none a zero = refl
length_none a (suc n) = ap suc (length_none (a + 1) n)

pub chained_start : (keys : List ℕ) (nodes : ℕ) → Chained keys nodes (no_edges nodes) [] 0
chained_start keys nodes = record {
  nodes_are = length_none 0 nodes;
  size = refl;
  lasts = λ v h. inl (index_none 0 nodes v h, λ m a b is. absurd (below m b));
  befores = λ m v h is. absurd (below m h);
}
  where
    below : (m : ℕ) → m < 0 → ⊥
    below m h = omega arith

module _ (keys : List ℕ) (nodes : ℕ) (last before : List ℕ) (n v : ℕ) (is : item_at keys n ≡ Some v) (inside : v < nodes) (c : Chained keys nodes last before n) where
  abbrev last' : List ℕ
  last' = slice_set last v n

  abbrev before' : List ℕ
  before' = before ++ slice_index last v ∷ []

  more : (m : ℕ) → m < n → m < n + 1
  more m h = omega arith

  next_or_before : (m : ℕ) → m < n + 1 → (m < n) ⊎ (m ≡ n)
  next_or_before m h = elim (cases_lt m n) [ inl k ↦ inl k | inr k ↦ inr (omega arith) ]

  own : IsLast keys v (n + 1) (slice_index last' v)
  own = subst (IsLast keys v (n + 1)) (sym (get_or-set_same last v n 0 (subst (λ k. v < k) (sym c.nodes_are) inside))) (inr (omega arith, is, λ m a b at. absurd (none m a b)))
    where
      none : (m : ℕ) → n + 1 ≤ m → m < n + 1 → ⊥
      none m a b = omega arith

  stays : (u k : ℕ) → u ≢ v → IsLast keys u n k → IsLast keys u (n + 1) k
  stays u k ne (inl (e, none)) = inl (e, λ m a b at. elim (next_or_before m b) [ inl low ↦ none m a low at | inr q ↦ ne (one_item keys n u v (ap (item_at keys) (sym q) ∙ at) is) ])
  stays u k ne (inr (low, at, none)) = inr (more k low, at, λ m a b atm. elim (next_or_before m b) [ inl below ↦ none m a below atm | inr q ↦ ne (one_item keys n u v (ap (item_at keys) (sym q) ∙ atm) is) ])

  pub chained_next : Chained keys nodes last' before' (n + 1)
  chained_next = record {
    nodes_are = length-set last v n ∙ c.nodes_are;
    size = length_one_more before (slice_index last v) ∙ ap (λ k. k + 1) c.size;
    lasts = λ u h. elim (cases_eq u v) [
      | inl q ↦ subst (λ x. IsLast keys x (n + 1) (slice_index last' x)) (sym q) own
      | inr ne ↦ subst (IsLast keys u (n + 1)) (sym (get_or-set_other last v u n 0 ne)) (stays u (slice_index last u) ne (c.lasts u h))
    ];
    befores = λ m u h at. elim (next_or_before m h) [
      | inl low ↦ subst (IsLast keys u m) (sym (index_front before (slice_index last v) m (subst (λ k. m < k) (sym c.size) low))) (c.befores m u low at)
      | inr q ↦ newest m u q at
    ];
  }
    where
      newest : (m u : ℕ) → m ≡ n → item_at keys m ≡ Some u → IsLast keys u m (slice_index before' m)
      newest m u q at =
          let same : v ≡ u = one_item keys n v u is (ap (item_at keys) (sym q) ∙ at) in
          let size : m ≡ length before = q ∙ sym c.size in
          let e : slice_index before' m ≡ slice_index last v = ap (slice_index before') size ∙ index_last before (slice_index last v) in
          subst (IsLast keys u m) (sym e) (subst (λ b. IsLast keys u b (slice_index last v)) (sym q) (subst (λ x. IsLast keys x n (slice_index last v)) same (c.lasts v inside)))

pub chained_all : (keys : List ℕ) (nodes : ℕ) (last before : List ℕ) (n : ℕ) → length keys ≤ n → n ≤ length keys → ((m v : ℕ) → item_at keys m ≡ Some v → v < nodes) → Chained keys nodes last before n → AreChains keys last before
chained_all keys nodes last before n a b within c = record {
  size = c.size ∙ all;
  lasts = λ v h. subst (λ k. IsLast keys v k (slice_index last v)) all (c.lasts v (subst (λ k. v < k) c.nodes_are h));
  rest = λ v h m low high at. against v (within m v at) (subst (λ k. k ≤ v) c.nodes_are h);
  befores = λ m v at. c.befores m v (subst (λ k. m < k) (sym all) (item_within keys m v at)) at;
}
  where
    all : n ≡ length keys
    all = omega (arith, a, b)

    against : (v : ℕ) → v < nodes → nodes ≤ v → ⊥
    against v p q = omega arith

-- the last number of a key, where chains begin
pub begun_at : (keys last before : List ℕ) (v : ℕ) → AreChains keys last before → IsLast keys v (length keys) (slice_index_or last v NO_EDGE)
begun_at keys last before v c = elim (cases_lt v (length last)) [
  | inl h ↦ subst (IsLast keys v (length keys)) (any_default last v 0 NO_EDGE h) (c.lasts v h)
  | inr h ↦ inl (beyond last v h, c.rest v h)
]
  where
    beyond : (xs : List ℕ) (v : ℕ) → length xs ≤ v → slice_index_or xs v NO_EDGE ≡ NO_EDGE
    beyond [] v h = refl
    beyond (x ∷ xs) zero h = absurd (omega arith)
    beyond (x ∷ xs) (suc v) h = beyond xs v (omega arith)

-- a number of the key below b is not above the last one
pub none_above : (keys : List ℕ) (v b n : ℕ) → IsLast keys v b n → b ≤ NO_EDGE → (m : ℕ) → m < b → item_at keys m ≡ Some v → (n ≡ NO_EDGE) ⊎ (n < m) → ⊥
none_above keys v b n (inl (e, none)) few m low at _ = none m (omega arith) low at
none_above keys v b n (inr (under, is, none)) few m low at (inl e) = omega (arith, under, few, e)
none_above keys v b n (inr (under, is, none)) few m low at (inr h) = none m (omega (arith, h)) low at

-- a link of a chain, or its end
abbrev pub IsLink : List ℕ → ℕ → ℕ → Type 0
IsLink keys v n = (n ≡ NO_EDGE) ⊎ (item_at keys n ≡ Some v)

pub link_of : (keys : List ℕ) (v b n : ℕ) → IsLast keys v b n → IsLink keys v n
link_of keys v b n (inl (e, none)) = inl e
link_of keys v b n (inr (under, is, none)) = inr is

-- going along a chain ends
pub goes_down : (keys : List ℕ) (v n n' : ℕ) → n < NO_EDGE → IsLast keys v n n' → (n' + 1) % 4_294_967_296 < (n + 1) % 4_294_967_296
goes_down keys v n n' low (inl (e, none)) = omega (arith, e, low)
goes_down keys v n n' low (inr (under, is, none)) = omega (arith, under, low)

-- an edge of the chain
pub record IsEdgeOf (key : GraphEdge → ℕ) (edges : List GraphEdge) (v n : ℕ) : Type 0 where
  pub low : n < length edges
  pub is : item_at edges n ≡ Some (edge_at edges n)
  pub has : key (edge_at edges n) ≡ v
  pub listed : item_at (map key edges) n ≡ Some v

pub edge_of : (key : GraphEdge → ℕ) (edges : List GraphEdge) (v n : ℕ) → IsLink (map key edges) v n → (n ≡ NO_EDGE → ⊥) → IsEdgeOf key edges v n
edge_of key edges v n (inl e) ne = absurd (ne e)
edge_of key edges v n (inr at) ne =
    let (e, is, same) = item_map key edges n v at in
    let low : n < length edges = item_within edges n e is in
    let read = item_read edges n (record { from = 0; to = 0; marked = false }) low in
    record { low = low; is = read; has = ap key (one_item edges n (edge_at edges n) e read is) ∙ sym same; listed = at }
