-- The nearest start, and the first step of each node.
use Rattle.std.proofs.Common.{◌≡◌, ℕ, ◌+◌, ◌<◌, ◌≤◌, ◌⊎◌, inl, inr, Bool, true, List, length, Option, Some, None, slice_index, refl, sym, ◌∙◌, ap, subst, arith}
use Rattle.std.proofs.lemmas.List.{length-map}
use Rattle.std.proofs.lemmas.Bool.{cases_lt}
use Rattle.least_walk.specs.declared.graphs.GraphEdge.{GraphEdge}
use Rattle.least_walk.specs.Distances.{AreDistances}
use Rattle.least_walk.specs.Chains.{IsLast, edge_begins}
use Rattle.least_walk.specs.Walks.{IsFirstStep, IsNearest, AllFar}
use Rattle.least_walk.proofs.Items.{item_within, item_of_map, one_item}
use Rattle.least_walk.proofs.Chaining.{IsLink, none_above}
use Rattle.least_walk.specs.declared.chains.TheConstants.{NO_EDGE}
use Rattle.least_walk.specs.declared.distances.TheConstants.{FAR}
use Rattle.gtrbac_model.specs.Graph.{item_at}

-- the best of the first i starts
pub record Best (starts ds : List ℕ) (least i s : ℕ) : Type 0 where
  pub place : ℕ
  pub earlier : place < i
  pub is : item_at starts place ≡ Some s
  pub tells : slice_index ds s ≡ least
  pub reached : least < FAR
  pub others : (j t : ℕ) → j < i → item_at starts j ≡ Some t → (least < slice_index ds t) ⊎ ((least ≡ slice_index ds t) × (place ≤ j))

abbrev pub BestOf : List ℕ → List ℕ → ℕ → ℕ → Option ℕ → Type 0
BestOf starts ds least i None = (least ≡ FAR) × ((j t : ℕ) → j < i → item_at starts j ≡ Some t → FAR ≤ slice_index ds t)
BestOf starts ds least i (Some s) = Best starts ds least i s

next_or_before : (a n : ℕ) → a < n + 1 → (a < n) ⊎ (a ≡ n)
next_or_before a n h = elim (cases_lt a n) [ inl k ↦ inl k | inr k ↦ inr (omega arith) ]

-- the start at i is not nearer
pub best_stays : (starts ds : List ℕ) (least i s : ℕ) (best : Option ℕ) → item_at starts i ≡ Some s → least ≤ slice_index ds s → BestOf starts ds least i best → BestOf starts ds least (i + 1) best
best_stays starts ds least i s None is le (a, b) = (
  a,
  λ j t h isj. elim (next_or_before j i h) [
    | inl k ↦ b j t k isj
    | inr k ↦ up _ _ _ a le (ap (slice_index ds) (one_item starts i s t is (ap (item_at starts) (sym k) ∙ isj)))
  ],
)
  where
    up : (a b d : ℕ) → a ≡ FAR → a ≤ b → b ≡ d → FAR ≤ d
    up a b d p q r = omega arith
best_stays starts ds least i s (Some b) is le w =
    record {
      place = w.place;
      earlier = more _ _ w.earlier;
      is = w.is;
      tells = w.tells;
      reached = w.reached;
      others = λ j t h isj. elim (next_or_before j i h) [
        | inl k ↦ w.others j t k isj
        | inr k ↦ last j t k isj
      ];
    }
  where
    more : (a n : ℕ) → a < n → a < n + 1
    more a n p = omega arith

    order : (a b c p j : ℕ) → a ≤ b → b ≡ c → p < i → j ≡ i → (a < c) ⊎ ((a ≡ c) × (p ≤ j))
    order a b c p j q r u v = elim (cases_lt a c) [ inl k ↦ inl k | inr k ↦ inr (omega arith, omega arith) ]

    last : (j t : ℕ) → j ≡ i → item_at starts j ≡ Some t → (least < slice_index ds t) ⊎ ((least ≡ slice_index ds t) × (w.place ≤ j))
    last j t k isj = order _ _ _ _ _ le (ap (slice_index ds) (one_item starts i s t is (ap (item_at starts) (sym k) ∙ isj))) w.earlier k

-- the start at i is nearer
pub best_found : (starts ds : List ℕ) (least i s : ℕ) (best : Option ℕ) → item_at starts i ≡ Some s → slice_index ds s < least → least ≤ FAR → BestOf starts ds least i best → BestOf starts ds (slice_index ds s) (i + 1) (Some s)
best_found starts ds least i s best is lt le w =
    record {
      place = i;
      earlier = more_one i;
      is = is;
      tells = refl;
      reached = below _ _ lt le;
      others = λ j t h isj. elim (next_or_before j i h) [
        | inl k ↦ inl (earlier best w j t k isj)
        | inr k ↦ inr (ap (slice_index ds) (one_item starts i s t is (ap (item_at starts) (sym k) ∙ isj)), at_most j k)
      ];
    }
  where
    more_one : (n : ℕ) → n < n + 1
    more_one n = omega arith

    below : (a b : ℕ) → a < b → b ≤ FAR → a < FAR
    below a b p q = omega arith

    at_most : (j : ℕ) → j ≡ i → i ≤ j
    at_most j k = omega arith

    under : (a b c : ℕ) → a < b → b ≤ FAR → FAR ≤ c → a < c
    under a b c p q r = omega arith

    under_less : (a b c : ℕ) → a < b → b < c → a < c
    under_less a b c p q = omega arith

    under_same : (a b c : ℕ) → a < b → b ≡ c → a < c
    under_same a b c p q = omega arith

    earlier : (best : Option ℕ) → BestOf starts ds least i best → (j t : ℕ) → j < i → item_at starts j ≡ Some t → slice_index ds s < slice_index ds t
    earlier None (a, b) j t k isj = under _ _ _ lt le (b j t k isj)
    earlier (Some b) w j t k isj =
        elim (w.others j t k isj) [ inl h ↦ under_less _ _ _ lt h | inr h ↦ under_same _ _ _ lt h.0 ]

pub best_none : (starts ds : List ℕ) (least i : ℕ) → length starts ≤ i → BestOf starts ds least i None → AllFar starts ds
best_none starts ds least i le (a, b) j t is = b j t (lt _ _ _ (item_within starts j t is) le) is
  where
    lt : (a b c : ℕ) → a < b → b ≤ c → a < c
    lt a b c p q = omega arith

pub best_some : (starts ds : List ℕ) (least i s : ℕ) → length starts ≤ i → BestOf starts ds least i (Some s) → IsNearest starts ds s
best_some starts ds least i s le w =
    record {
      place = w.place;
      is = w.is;
      reached = below _ _ w.tells w.reached;
      least = λ j t isj. elim (w.others j t (lt _ _ _ (item_within starts j t isj) le) isj) [
        | inl h ↦ inl (less _ _ _ w.tells h)
        | inr h ↦ inr (w.tells ∙ h.0, h.1)
      ];
    }
  where
    lt : (a b c : ℕ) → a < b → b ≤ c → a < c
    lt a b c p q = omega arith

    below : (a b : ℕ) → a ≡ b → b < FAR → a < FAR
    below a b p q = omega arith

    less : (a b c : ℕ) → a ≡ b → b < c → a < c
    less a b c p q = omega arith

-- of the open edges of the node above n: none leads closer, or the least that does is kept
pub record BestStep (ok : ℕ → Bool) (edges : List GraphEdge) (ds : List ℕ) (at n best : ℕ) : Type 0 where
  pub edge : GraphEdge
  pub is : item_at edges best ≡ Some edge
  pub may : ok best ≡ true
  pub leaves : edge.from ≡ at
  pub closer : slice_index ds edge.to + 1 ≡ slice_index ds at
  pub least : (m : ℕ) (e : GraphEdge) → item_at edges m ≡ Some e → ok m ≡ true → e.from ≡ at → slice_index ds e.to + 1 ≡ slice_index ds at → (n ≡ NO_EDGE) ⊎ (n < m) → best ≤ m

abbrev pub NoStep : (ℕ → Bool) → List GraphEdge → List ℕ → ℕ → ℕ → Type 0
NoStep ok edges ds at n = (m : ℕ) (e : GraphEdge) → item_at edges m ≡ Some e → ok m ≡ true → e.from ≡ at → slice_index ds e.to + 1 ≡ slice_index ds at → (n ≡ NO_EDGE) ⊎ (n < m) → ⊥

pub record Stepped (ok : ℕ → Bool) (edges : List GraphEdge) (ds : List ℕ) (at n best : ℕ) : Type 0 where
  pub link : IsLink (edge_begins edges) at n
  pub kept : ((best ≡ NO_EDGE) × NoStep ok edges ds at n) ⊎ BestStep ok edges ds at n best

pub length_begins : (edges : List GraphEdge) → length (edge_begins edges) ≡ length edges
length_begins edges = length-map edges (λ e. e.from)

begin_at : (edges : List GraphEdge) (m : ℕ) (e : GraphEdge) (at : ℕ) → item_at edges m ≡ Some e → e.from ≡ at → item_at (edge_begins edges) m ≡ Some at
begin_at edges m e at is from = item_of_map (λ e. e.from) edges m e is ∙ ap Some from

pub stepped_start : (ok : ℕ → Bool) (edges : List GraphEdge) (ds : List ℕ) (at n : ℕ) → IsLast (edge_begins edges) at (length (edge_begins edges)) n → IsLink (edge_begins edges) at n → length edges ≤ NO_EDGE → Stepped ok edges ds at n NO_EDGE
stepped_start ok edges ds at n last link few = record {
  link = link;
  kept = inl (
    refl,
    λ m e is on from closer above.
        none_above (edge_begins edges) at (length (edge_begins edges)) n last (subst (λ k. k ≤ NO_EDGE) (sym (length_begins edges)) few) m (subst (λ k. m < k) (sym (length_begins edges)) (item_within edges m e is)) (begin_at edges m e at is from) above,
  );
}

module _ (ok : ℕ → Bool) (edges : List GraphEdge) (ds : List ℕ) (at n n' : ℕ) (few : length edges ≤ NO_EDGE) (e : GraphEdge) (is : item_at edges n ≡ Some e) (last : IsLast (edge_begins edges) at n n') (link : IsLink (edge_begins edges) at n') where
  below : n ≤ NO_EDGE
  below = omega (arith, item_within edges n e is, few)

  which : (m : ℕ) → (m < n) ⊎ ((m ≡ n) ⊎ (n < m))
  which m = elim (cases_lt m n) [ inl k ↦ inl k | inr k ↦ elim (cases_lt n m) [ inl h ↦ inr (inr h) | inr h ↦ inr (inl (omega arith)) ] ]

  low_none : (m : ℕ) (f : GraphEdge) → m < n → item_at edges m ≡ Some f → f.from ≡ at → (n' ≡ NO_EDGE) ⊎ (n' < m) → ⊥
  low_none m f low isf from above = none_above (edge_begins edges) at n n' last below m low (begin_at edges m f at isf from) above

  -- an edge that does not lead closer
  pub stepped_skip : (best : ℕ) → (ok n ≡ true → slice_index ds e.to + 1 ≡ slice_index ds at → ⊥) → Stepped ok edges ds at n best → Stepped ok edges ds at n' best
  stepped_skip best other s = record { link = link; kept = on_with s.kept }
    where
      not_this : (m : ℕ) (f : GraphEdge) → m ≡ n → item_at edges m ≡ Some f → ok m ≡ true → slice_index ds f.to + 1 ≡ slice_index ds at → ⊥
      not_this m f q isf on closer =
          let same : e ≡ f = one_item edges m e f (ap (item_at edges) q ∙ is) isf in
          other (subst (λ k. ok k ≡ true) q on) (ap (λ g. slice_index ds g.to + 1) same ∙ closer)

      on_with : ((best ≡ NO_EDGE) × NoStep ok edges ds at n) ⊎ BestStep ok edges ds at n best → ((best ≡ NO_EDGE) × NoStep ok edges ds at n') ⊎ BestStep ok edges ds at n' best
      on_with (inl (vacant, none)) = inl (
        vacant,
        λ m f isf on from closer above. elim (which m) [
          | inl low ↦ low_none m f low isf from above
          | inr (inl q) ↦ not_this m f q isf on closer
          | inr (inr h) ↦ none m f isf on from closer (inr h)
        ],
      )
      on_with (inr b) = inr (record {
        edge = b.edge;
        is = b.is;
        may = b.may;
        leaves = b.leaves;
        closer = b.closer;
        least = λ m f isf on from closer above. elim (which m) [
          | inl low ↦ absurd (low_none m f low isf from above)
          | inr (inl q) ↦ absurd (not_this m f q isf on closer)
          | inr (inr h) ↦ b.least m f isf on from closer (inr h)
        ];
      })

  -- one that does
  pub stepped_found : (best : ℕ) → ok n ≡ true → e.from ≡ at → slice_index ds e.to + 1 ≡ slice_index ds at → Stepped ok edges ds at n best → Stepped ok edges ds at n' n
  stepped_found best on from closer s = record {
    link = link;
    kept = inr (record {
      edge = e;
      is = is;
      may = on;
      leaves = from;
      closer = closer;
      least = λ m f isf on_m from_m closer_m above. elim (which m) [
        | inl low ↦ absurd (low_none m f low isf from_m above)
        | inr (inl q) ↦ at_most m q
        | inr (inr h) ↦ up m h
      ];
    });
  }
    where
      at_most : (m : ℕ) → m ≡ n → n ≤ m
      at_most m q = omega arith

      up : (m : ℕ) → n < m → n ≤ m
      up m h = omega arith

-- a node at a distance has a step, so the least is found
pub stepped_all : (ok : ℕ → Bool) (edges : List GraphEdge) (goal : List Bool) (ds : List ℕ) (at n best : ℕ) → n ≡ NO_EDGE → 0 < slice_index ds at → slice_index ds at < FAR → AreDistances ok edges goal ds → Stepped ok edges ds at n best → IsFirstStep ok edges ds at best
stepped_all ok edges goal ds at n best none some h dist s = go s.kept
  where
    go : ((best ≡ NO_EDGE) × NoStep ok edges ds at n) ⊎ BestStep ok edges ds at n best → IsFirstStep ok edges ds at best
    go (inl (vacant, nothing)) = let t = dist.steps at some h in absurd (nothing t.number t.edge t.is t.may t.leaves t.closer (inl none))
    go (inr b) = record {
      edge = b.edge;
      is = b.is;
      may = b.may;
      leaves = b.leaves;
      closer = b.closer;
      least = λ m e is on from closer. b.least m e is on from closer (inl none);
    }

-- of whole distances, an open edge to a nearer node leads just one step closer
pub one_closer : (ok : ℕ → Bool) (edges : List GraphEdge) (goal : List Bool) (ds : List ℕ) (n at : ℕ) (e : GraphEdge) → AreDistances ok edges goal ds → item_at edges n ≡ Some e → ok n ≡ true → e.from ≡ at → slice_index ds e.to < slice_index ds at → slice_index ds e.to + 1 ≡ slice_index ds at
one_closer ok edges goal ds n at e dist is on from lt =
    exact _ _ _ (dist.nearby n e is on (near _ _ lt (dist.bound at))).near (ap (slice_index ds) from) lt
  where
    near : (a b : ℕ) → a < b → b ≤ FAR → a < FAR
    near a b p q = omega arith

    exact : (a b c : ℕ) → a ≤ b + 1 → a ≡ c → b < c → b + 1 ≡ c
    exact a b c p q r = omega arith
