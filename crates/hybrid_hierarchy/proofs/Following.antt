-- The edges of the head, one after the other.
use Rattle.std.proofs.Common.{◌≡◌, ℕ, zero, suc, ◌+◌, ◌<◌, ◌≤◌, ◌⊎◌, inl, inr, Bool, true, false, not, cond, List, [], ◌∷◌, ◌++◌, length, Some, slice_index_or, slice_set, replicate, refl, sym, ◌∙◌, ap, subst, arith}
use Rattle.std.specs.List.{count_by}
use Rattle.std.proofs.lemmas.List.Sums.{sum_by-set}
use Rattle.std.proofs.lemmas.Bool.{false≢true}
use Rattle.gt_base.specs.declared.events.RoleId.{RoleId}
use Rattle.gt_base.specs.declared.policies.HierEdge.{HierEdge}
use Rattle.gtrbac_model.specs.Graph.{item_at}
use Rattle.least_walk.proofs.Items.{item_within, item_read, item_front, one_item}
use Rattle.hybrid_hierarchy.specs.declared.searching.FoundRole.{FoundRole}
use Rattle.hybrid_hierarchy.specs.Searches.{IsFirstEdge, IsOutgoing, is_seen, HasSearched, Following, IsGoalBy}
use Rattle.walk_laws.proofs.Roles.{one_role}
use Rattle.hybrid_hierarchy.proofs.Seeking.{search_first, search_shut, search_skip, search_found, search_on}
use Rattle.hybrid_hierarchy.proofs.Leading.{reached_is_least}
use Rattle.hybrid_hierarchy.specs.declared.outgoing.TheConstants.{NO_EDGE}

abbrev pub edge_at : List HierEdge → ℕ → HierEdge
edge_at es n = slice_index_or es n (record { senior = record { 0 = 0 }; junior = record { 0 = 0 }; inherits = false; activates = false; strong = false })

-- an edge of the role
pub record IsEdgeOf (es : List HierEdge) (v n : ℕ) : Type 0 where
  pub low : n < length es
  pub is : item_at es n ≡ Some (edge_at es n)
  pub from : (edge_at es n).senior.0 ≡ v

pub edge_of : (es : List HierEdge) (v n : ℕ) → (n ≡ NO_EDGE) ⊎ ((e : HierEdge) × (item_at es n ≡ Some e) × (e.senior.0 ≡ v)) → (n ≡ NO_EDGE → ⊥) → IsEdgeOf es v n
edge_of es v n (inl e) ne = absurd (ne e)
edge_of es v n (inr (e, is, from)) ne =
    let low : n < length es = item_within es n e is in
    let read = item_read es n (record { senior = record { 0 = 0 }; junior = record { 0 = 0 }; inherits = false; activates = false; strong = false }) low in
    record { low = low; is = read; from = ap (λ e. e.senior.0) (one_item es n (edge_at es n) e read is) ∙ from }

-- fewer are not seen
pub fewer_unseen : (seen : List Bool) (v : ℕ) → v < length seen → is_seen seen v ≡ false → count_by not (slice_set seen v true) + 1 ≡ count_by not seen
fewer_unseen seen v h off =
    less _ _ _ (sum_by-set weight seen v true false h) (ap weight off)
  where
    weight : Bool → ℕ
    weight b = cond (not b) 1 0

    less : (new old one : ℕ) → new + one ≡ old + 0 → one ≡ 1 → new + 1 ≡ old
    less new old one e p = omega (arith, e, p)

pub none_seen : (n v : ℕ) → is_seen (replicate n false) v ≡ true → ⊥
none_seen zero v h = cc
none_seen (suc n) zero h = cc
none_seen (suc n) (suc v) h = none_seen n v h

module _ (ok : ℕ → HierEdge → Bool) (goal : RoleId → Bool) (es : List HierEdge) (starts : List ℕ) (first next : List ℕ) (few : length es ≤ 4_000) (out : IsOutgoing es first next) where
  pub following_start : (seen : List Bool) (queue : List FoundRole) (head v n : ℕ) (d : FoundRole) → head < length queue → v ≡ (slice_index_or queue head d).role → n ≡ slice_index_or first v NO_EDGE
      → HasSearched ok goal es starts (length starts) seen queue head 0 → Following ok goal es starts seen queue head v n
  following_start seen queue head v n d low role is (ws, w) =
      let f : FoundRole = slice_index_or queue head d in
      let (s, here, told) = w.tells.told head f (item_read queue head d low) in
      let node : s.node ≡ v = told.0 ∙ sym role in
      let at : IsFirstEdge es s.node 0 n = subst (IsFirstEdge es s.node 0) (ap (λ v. slice_index_or first v NO_EDGE) node ∙ sym is) (out.firsts s.node) in
      record {
        walks = ws;
        stop = s;
        here = here;
        node = node;
        link = elim at.is [ inl e ↦ inl e | inr h ↦ inr h.1 ];
        searched = search_first ok goal es starts (length starts) seen queue ws head n s here at w;
      }

  next_of : (v n n' d : ℕ) → IsEdgeOf es v n → n' ≡ slice_index_or next n d → IsFirstEdge es v (n + 1) n'
  next_of v n n' d e is =
      subst (λ u. IsFirstEdge es u (n + 1) n') e.from (subst (IsFirstEdge es (edge_at es n).senior.0 (n + 1)) (any n d (subst (λ k. n < k) (sym out.size) e.low) ∙ sym is) (out.nexts n (edge_at es n) e.is))
    where
      any : (n d : ℕ) → n < length next → slice_index_or next n 0 ≡ slice_index_or next n d
      any n d h = go next n h
        where
          go : (xs : List ℕ) (n : ℕ) → n < length xs → slice_index_or xs n 0 ≡ slice_index_or xs n d
          go [] n h = absurd (omega (arith, h))
          go (x ∷ xs) zero h = refl
          go (x ∷ xs) (suc n) h = go xs n (omega (arith, h))

  link_of : (v n n' : ℕ) → IsFirstEdge es v (n + 1) n' → (n' ≡ NO_EDGE) ⊎ ((e : HierEdge) × (item_at es n' ≡ Some e) × (e.senior.0 ≡ v))
  link_of v n n' at = elim at.is [ inl e ↦ inl e | inr h ↦ inr h.1 ]

  -- going along the edges ends
  pub goes_up : (v n n' d : ℕ) → IsEdgeOf es v n → n' ≡ slice_index_or next n d → (n < n') × (n < NO_EDGE)
  goes_up v n n' d e is = (elim (next_of v n n' d e is).is [ inl h ↦ omega (arith, h, e.low, few) | inr h ↦ omega (arith, h.0) ], omega (arith, e.low, few))

  module _ (seen : List Bool) (queue : List FoundRole) (head v n n' d : ℕ) (ne : n ≡ NO_EDGE → ⊥) (is : n' ≡ slice_index_or next n d) (w : Following ok goal es starts seen queue head v n) where
    pub here : IsEdgeOf es w.stop.node n
    here = edge_of es w.stop.node n w.link ne

    pub following_skip : (ok n (edge_at es n) ≡ true → is_seen seen (edge_at es n).junior.0 ≡ true) → Following ok goal es starts seen queue head v n'
    following_skip known = record {
      walks = w.walks;
      stop = w.stop;
      here = w.here;
      node = w.node;
      link = link_of w.stop.node n n' (next_of w.stop.node n n' d here is);
      searched = search_skip ok goal es starts (length starts) seen queue w.walks head n n' w.stop (edge_at es n) few w.here here.is here.from (next_of w.stop.node n n' d here is) w.searched known;
    }

    pub following_found : ok n (edge_at es n) ≡ true → (edge_at es n).junior.0 < length seen → goal (edge_at es n).junior ≡ false → Following ok goal es starts (slice_set seen (edge_at es n).junior.0 true) (queue ++ record { role = (edge_at es n).junior.0; by = n; before = head } ∷ []) head v n'
    following_found on inside off = record {
      walks = w.walks ++ record { node = (edge_at es n).junior.0; start = w.stop.start; place = w.stop.place; arcs = w.stop.arcs ++ n ∷ [] } ∷ [];
      stop = w.stop;
      here = item_front w.walks (record { node = (edge_at es n).junior.0; start = w.stop.start; place = w.stop.place; arcs = w.stop.arcs ++ n ∷ [] } ∷ []) head w.stop w.here;
      node = w.node;
      link = link_of w.stop.node n n' (next_of w.stop.node n n' d here is);
      searched = search_found ok goal es starts (length starts) seen queue w.walks head n n' w.stop (edge_at es n) few w.here here.is here.from (next_of w.stop.node n n' d here is) w.searched on inside off;
    }

  pub following_end : (seen : List Bool) (queue : List FoundRole) (head v n : ℕ) → n ≡ NO_EDGE → Following ok goal es starts seen queue head v n → HasSearched ok goal es starts (length starts) seen queue (head + 1) 0
  following_end seen queue head v n whole w = (w.walks, search_on ok goal es starts (length starts) seen queue w.walks head n few whole w.searched)

  -- the edge n of the head leads to a goal
  pub following_goal : (seen : List Bool) (queue : List FoundRole) (head v n : ℕ) → (n ≡ NO_EDGE → ⊥) → (w : Following ok goal es starts seen queue head v n) → ok n (edge_at es n) ≡ true → goal (edge_at es n).junior ≡ true → IsGoalBy ok goal es starts queue head n
  following_goal seen queue head v n ne w on reaches =
      let e = edge_of es w.stop.node n w.link ne in
      record {
        walks = w.walks;
        stop = w.stop;
        tells = w.searched.tells;
        here = w.here;
        least = reached_is_least ok goal es starts seen queue w.walks head n w.searched w.stop (edge_at es n) w.here e.is e.from on reaches;
      }

  -- where no edge from the head may be open
  pub following_none : (seen : List Bool) (queue : List FoundRole) (head v : ℕ) (d : FoundRole) → head < length queue → v ≡ (slice_index_or queue head d).role → ((n : ℕ) (e : HierEdge) → e.senior ≡ record { 0 = v } → ok n e ≡ false)
      → HasSearched ok goal es starts (length starts) seen queue head 0 → HasSearched ok goal es starts (length starts) seen queue (head + 1) 0
  following_none seen queue head v d low role shut (ws, w) =
      let f : FoundRole = slice_index_or queue head d in
      let (s, here, told) = w.tells.told head f (item_read queue head d low) in
      let node : s.node ≡ v = told.0 ∙ sym role in
      (ws, search_on ok goal es starts (length starts) seen queue ws head NO_EDGE few refl (search_shut ok goal es starts (length starts) seen queue ws head NO_EDGE s here (λ m e is from on h. off m e (from ∙ node) on) w))
    where
      off : (m : ℕ) (e : HierEdge) → e.senior.0 ≡ v → ok m e ≡ true → ⊥
      off m e from on = false≢true (sym (shut m e (one_role e.senior (record { 0 = v }) from)) ∙ on)
