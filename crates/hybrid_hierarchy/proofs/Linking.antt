-- The edges of each role, linked from the last edge down.
use Rattle.std.proofs.Common.{◌≡◌, ◌≢◌, ℕ, zero, suc, ◌+◌, ◌-◌, ◌<◌, ◌≤◌, inl, inr, List, length, Some, slice_index_or, slice_set, replicate, false, refl, sym, ◌∙◌, ap, subst, arith}
use Rattle.std.proofs.lemmas.List.{get_or-set_same, get_or-set_other, length-set}
use Rattle.std.proofs.lemmas.Bool.{cases_eq}
use Rattle.gt_base.specs.declared.policies.HierEdge.{HierEdge}
use Rattle.gtrbac_model.specs.Graph.{item_at}
use Rattle.least_walk.proofs.Items.{item_within, item_read, one_item, any_default}
use Rattle.hybrid_hierarchy.specs.Nets.{AreWithin}
use Rattle.hybrid_hierarchy.specs.Searches.{IsFirstEdge, IsOutgoing}
use Rattle.hybrid_hierarchy.proofs.Following.{edge_at}
use Rattle.hybrid_hierarchy.specs.declared.outgoing.TheConstants.{NO_EDGE}

-- linked are the edges from number n on
pub record Linked (es : List HierEdge) (first next : List ℕ) (n : ℕ) : Type 0 where
  pub low : n ≤ length es
  pub nodes : length first ≡ 1_000
  pub size : length next ≡ length es
  pub firsts : (v : ℕ) → IsFirstEdge es v n (slice_index_or first v NO_EDGE)
  pub nexts : (m : ℕ) (e : HierEdge) → n ≤ m → item_at es m ≡ Some e → IsFirstEdge es e.senior.0 (m + 1) (slice_index_or next m 0)

same_read : (k x v : ℕ) → slice_index_or (replicate k x) v x ≡ x
same_read zero x v = refl
same_read (suc k) x zero = refl
same_read (suc k) x (suc v) = same_read k x v

length_same : (k x : ℕ) → length (replicate k x) ≡ k
length_same zero x = refl
length_same (suc k) x = ap suc (length_same k x)

pub linked_start : (es : List HierEdge) → Linked es (replicate 1_000 NO_EDGE) (replicate (length es) NO_EDGE) (length es)
linked_start es = record {
  low = here (length es);
  nodes = length_same 1_000 NO_EDGE;
  size = length_same (length es) NO_EDGE;
  firsts = λ v. record { nothing = λ m e a b at from. past m e a at; is = inl (same_read 1_000 NO_EDGE v) };
  nexts = λ m e a at. absurd (past m e a at);
}
  where
    here : (a : ℕ) → a ≤ a
    here a = omega arith

    past : (m : ℕ) (e : HierEdge) → length es ≤ m → item_at es m ≡ Some e → ⊥
    past m e a at = omega (arith, a, item_within es m e at)

pub senior_low : (es : List HierEdge) (k : ℕ) → AreWithin 1_000 es → k < length es → (edge_at es k).senior.0 < 1_000
senior_low es k within low = (within k (edge_at es k) (item_read es k (record { senior = record { 0 = 0 }; junior = record { 0 = 0 }; inherits = false; activates = false; strong = false }) low)).senior_in

module _ (es : List HierEdge) (first next : List ℕ) (n : ℕ) (within : AreWithin 1_000 es) (some : 0 < n) (w : Linked es first next n) where
  abbrev k : ℕ
  k = n - 1

  abbrev v : ℕ
  v = (edge_at es k).senior.0

  inside : k < length es
  inside = omega (arith, some, w.low)

  is : item_at es k ≡ Some (edge_at es k)
  is = item_read es k (record { senior = record { 0 = 0 }; junior = record { 0 = 0 }; inherits = false; activates = false; strong = false }) inside

  v_low : v < length first
  v_low = subst (λ z. v < z) (sym w.nodes) (senior_low es k within inside)

  next_one : k + 1 ≡ n
  next_one = omega (arith, some)

  own : IsFirstEdge es v k k
  own = record { nothing = λ m e a b at from. none m a b; is = inr (here k, (edge_at es k, is, refl)) }
    where
      none : (m : ℕ) → k ≤ m → m < k → ⊥
      none m a b = omega (arith, a, b)

      here : (a : ℕ) → a ≤ a
      here a = omega arith

  stays : (u x : ℕ) → u ≢ v → IsFirstEdge es u n x → IsFirstEdge es u k x
  stays u x ne f = record {
    nothing = λ m e a b at from. elim (cases_eq m k) [
      | inl q ↦ ne (sym from ∙ ap (λ e. e.senior.0) (one_item es k e (edge_at es k) (ap (item_at es) (sym q) ∙ at) is))
      | inr q ↦ f.nothing m e (up m a q) b at from
    ];
    is = elim f.is [ inl e ↦ inl e | inr h ↦ inr (down h.0, h.1) ];
  }
    where
      up : (m : ℕ) → k ≤ m → (m ≡ k → ⊥) → n ≤ m
      up m a q = omega (arith, a, q, next_one)

      down : n ≤ x → k ≤ x
      down h = omega (arith, h, next_one)

  pub linked_step : (x : ℕ) → x ≡ slice_index_or first v x → Linked es (slice_set first v k) (slice_set next k x) k
  linked_step x e = record {
    low = omega (arith, inside);
    nodes = length-set first v k ∙ w.nodes;
    size = length-set next k x ∙ w.size;
    firsts = λ u. elim (cases_eq u v) [
      | inl q ↦ subst (λ z. IsFirstEdge es z k (slice_index_or (slice_set first v k) z NO_EDGE)) (sym q) (subst (IsFirstEdge es v k) (sym (get_or-set_same first v k NO_EDGE v_low)) own)
      | inr ne ↦ subst (IsFirstEdge es u k) (sym (get_or-set_other first v u k NO_EDGE ne)) (stays u (slice_index_or first u NO_EDGE) ne (w.firsts u))
    ];
    nexts = λ m f a at. elim (cases_eq m k) [
      | inl q ↦ newest m f q at
      | inr ne ↦ subst (IsFirstEdge es f.senior.0 (m + 1)) (sym (get_or-set_other next k m x 0 ne)) (w.nexts m f (up m a ne) at)
    ];
  }
    where
      up : (m : ℕ) → k ≤ m → (m ≡ k → ⊥) → n ≤ m
      up m a q = omega (arith, a, q, next_one)

      newest : (m : ℕ) (f : HierEdge) → m ≡ k → item_at es m ≡ Some f → IsFirstEdge es f.senior.0 (m + 1) (slice_index_or (slice_set next k x) m 0)
      newest m f q at =
          let same : edge_at es k ≡ f = one_item es k (edge_at es k) f is (ap (item_at es) (sym q) ∙ at) in
          let read : slice_index_or (slice_set next k x) m 0 ≡ slice_index_or first v NO_EDGE =
          ap (λ z. slice_index_or (slice_set next k x) z 0) q ∙ get_or-set_same next k x 0 (subst (λ z. k < z) (sym w.size) inside) ∙ e ∙ any_default first v x NO_EDGE v_low in
          subst (IsFirstEdge es f.senior.0 (m + 1)) (sym read)
          (subst (λ z. IsFirstEdge es z.senior.0 (m + 1) (slice_index_or first v NO_EDGE)) same
          (subst (λ z. IsFirstEdge es v z (slice_index_or first v NO_EDGE)) (sym (ap (λ z. z + 1) q ∙ next_one)) (w.firsts v)))

pub linked_all : (es : List HierEdge) (first next : List ℕ) (n : ℕ) → n ≤ 0 → Linked es first next n → IsOutgoing es first next
linked_all es first next n none w = record {
  size = w.size;
  firsts = λ v. subst (λ k. IsFirstEdge es v k (slice_index_or first v NO_EDGE)) zero_is (w.firsts v);
  nexts = λ m e at. w.nexts m e (omega (arith, none)) at;
}
  where
    zero_is : n ≡ 0
    zero_is = omega (arith, none)
