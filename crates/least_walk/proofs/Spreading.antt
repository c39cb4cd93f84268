-- Distances spread from the goals, node by node in the order in which they were found.
use Rattle.std.proofs.Common.{◌≡◌, ◌≢◌, ℕ, zero, suc, ◌+◌, ◌<◌, ◌≤◌, ◌↔◌, ◌⊎◌, inl, inr, Bool, true, false, cond, List, [], ◌∷◌, ◌++◌, length, map, filter, Some, slice_index, slice_set, refl, sym, ◌∙◌, ap, subst, arith}
use Rattle.std.specs.List.{slice_get, range_with_len}
use Rattle.std.proofs.lemmas.List.{get_or-set_same, get_or-set_other, length-set, length-map}
use Rattle.std.proofs.lemmas.List.Sums.{sum_by-set, count_by-le-length}
use Rattle.std.proofs.lemmas.Bool.{cases_eq, cases_lt, eq-eqb, ne_eqb}
use Rattle.least_walk.specs.declared.graphs.GraphEdge.{GraphEdge}
use Rattle.least_walk.specs.Net.{EndsIn}
use Rattle.least_walk.specs.Chains.{IsLast, ends}
use Rattle.least_walk.specs.Distances.{unreached, is_far, start_of, NearBy, HasStep, AreDistances, Spread}
use Rattle.least_walk.specs.Walks.{is_goal}
use Rattle.gtrbac_model.specs.Graph.{item_at}
use Rattle.least_walk.proofs.Items.{item_within, item_front, item_last, item_pushed, item_of_map, one_item}
use Rattle.least_walk.proofs.Chaining.{IsLink, none_above}
use Rattle.least_walk.specs.declared.chains.TheConstants.{NO_EDGE}
use Rattle.least_walk.specs.declared.distances.TheConstants.{FAR}

-- one fewer without a distance
pub fewer_unreached : (ds : List ℕ) (v d : ℕ) → v < length ds → slice_index ds v ≡ FAR → d < FAR → unreached (slice_set ds v d) < unreached ds
fewer_unreached ds v d h q lt =
    less _ _ _ _ (sum_by-set weight ds v d 0 h) (ap weight q ∙ ap (λ b. cond b 1 0) (eq-eqb FAR FAR refl)) (ap (λ b. cond b 1 0) (ne_eqb d FAR (λ e. differ d e lt)))
  where
    weight : ℕ → ℕ
    weight d = cond (is_far d) 1 0

    differ : (a : ℕ) → a ≡ FAR → a < FAR → ⊥
    differ a e l = omega arith

    less : (new old b a : ℕ) → new + b ≡ old + a → b ≡ 1 → a ≡ 0 → new < old
    less new old b a e p q = omega arith

unreached_at_most : (ds : List ℕ) → unreached ds ≤ length ds
unreached_at_most ds = count_by-le-length is_far ds

length_pushed : (xs : List ℕ) (y : ℕ) → length (xs ++ y ∷ []) ≡ length xs + 1
length_pushed [] y = refl
length_pushed (x ∷ xs) y = let k : length (xs ++ y ∷ []) ≡ length xs + 1 = length_pushed xs y in omega (arith, k)

-- an edge that gives its begin a distance
module _ (ok : ℕ → Bool) (edges : List GraphEdge) (goal : List Bool) (ds queue : List ℕ) (head at n : ℕ) (e : GraphEdge) (is : item_at edges n ≡ Some e) (may : ok n ≡ true) (inside : e.from < length ds) (here : item_at queue head ≡ Some at) (to : e.to ≡ at) (new : slice_index ds e.from ≡ FAR) (small : length goal < FAR) (w : Spread ok edges goal ds queue head) where
  abbrev near : ℕ
  near = slice_index ds at

  abbrev after : List ℕ
  after = slice_set ds e.from (near + 1)

  abbrev longer : List ℕ
  longer = queue ++ e.from ∷ []

  near_far : near < FAR
  near_far = (w.members head at here).1

  some_unreached : unreached (slice_set ds e.from 0) < unreached ds
  some_unreached = fewer_unreached ds e.from 0 inside new (omega arith)

  room : near + 1 < FAR
  room = omega (arith, w.few at near_far, some_unreached, small)

  fewer : unreached after < unreached ds
  fewer = fewer_unreached ds e.from (near + 1) inside new room

  own : slice_index after e.from ≡ near + 1
  own = get_or-set_same ds e.from (near + 1) 0 inside

  there : (v : ℕ) → v ≢ e.from → slice_index after v ≡ slice_index ds v
  there v h = get_or-set_other ds e.from v (near + 1) 0 h

  -- what had a distance keeps it
  kept : (v : ℕ) → slice_index ds v < FAR → slice_index after v ≡ slice_index ds v
  kept v h = there v (λ q. no (slice_index ds v) (slice_index ds e.from) h (ap (slice_index ds) q) new)
    where
      no : (a b : ℕ) → a < FAR → a ≡ b → b ≡ FAR → ⊥
      no a b p q r = omega arith

  -- below `far` after: the new one, or as before
  was : (v : ℕ) → slice_index after v < FAR → (v ≡ e.from) ⊎ ((v ≢ e.from) × (slice_index ds v < FAR))
  was v h = elim (cases_eq v e.from) [ inl q ↦ inl q | inr n ↦ inr (n, lt _ _ (there v n) h) ]
    where
      lt : (a b : ℕ) → a ≡ b → a < FAR → b < FAR
      lt a b p q = omega arith

  pub nearby_kept : (f : GraphEdge) → slice_index ds f.to < FAR → NearBy ds f → NearBy after f
  nearby_kept f h n = record { reached = lt _ _ (kept f.from n.reached) n.reached; near = le _ _ _ _ (kept f.from n.reached) (kept f.to h) n.near }
    where
      lt : (a b : ℕ) → a ≡ b → b < FAR → a < FAR
      lt a b p q = omega arith

      le : (a b c d : ℕ) → a ≡ b → c ≡ d → b ≤ d + 1 → a ≤ c + 1
      le a b c d p q r = omega arith

  step_kept : (v : ℕ) → slice_index ds v < FAR → HasStep ok edges ds v → HasStep ok edges after v
  step_kept v h s = record {
    number = s.number;
    edge = s.edge;
    is = s.is;
    may = s.may;
    leaves = s.leaves;
    closer = eq _ _ _ _ (kept s.edge.to (lt _ _ h s.closer)) (kept v h) s.closer;
  }
    where
      lt : (a b : ℕ) → a < FAR → b + 1 ≡ a → b < FAR
      lt a b p q = omega arith

      eq : (a b c d : ℕ) → a ≡ b → c ≡ d → b + 1 ≡ d → a + 1 ≡ c
      eq a b c d p q r = omega arith

  at_end : slice_index after e.to ≡ near
  at_end = kept e.to (subst (λ u. slice_index ds u < FAR) (sym to) near_far) ∙ ap (slice_index ds) to

  own_step : HasStep ok edges after e.from
  own_step = record { number = n; edge = e; is = is; may = may; leaves = refl; closer = ap (λ k. k + 1) at_end ∙ sym own }

  pub own_nearby : NearBy after e
  own_nearby = record { reached = omega (arith, own, room); near = omega (arith, own, at_end) }

  same_goal : (v : ℕ) → v < length goal → (slice_index after v ≡ 0) ↔ (slice_get goal v ≡ Some true)
  same_goal v h = elim (cases_eq v e.from) [
    | inl q ↦ (λ z. absurd (no _ _ z (ap (slice_index after) q) own), λ g. absurd (far_off _ _ ((w.goals v h).1 g) (ap (slice_index ds) q) new))
    | inr k ↦ (λ z. (w.goals v h).0 (sym (there v k) ∙ z), λ g. there v k ∙ (w.goals v h).1 g)
  ]
    where
      no : (a b : ℕ) → a ≡ 0 → a ≡ b → b ≡ near + 1 → ⊥
      no a b p q r = omega arith

      far_off : (a b : ℕ) → a ≡ 0 → a ≡ b → b ≡ FAR → ⊥
      far_off a b p q r = omega arith

  -- a place of the longer queue
  placed : (i v : ℕ) → item_at longer i ≡ Some v → ((item_at queue i ≡ Some v) × (slice_index after v ≡ slice_index ds v) × (slice_index ds v < FAR)) ⊎ ((i ≡ length queue) × (v ≡ e.from) × (slice_index after v ≡ near + 1))
  placed i v h = elim (item_pushed queue e.from i v h) [
    | inl k ↦ let low = (w.members i v k).1 in inl (k, kept v low, low)
    | inr k ↦ inr (k.0, sym k.1, ap (slice_index after) (sym k.1) ∙ own)
  ]

  pub spread_found : Spread ok edges goal after longer head
  spread_found = record {
    size = length-set ds e.from (near + 1) ∙ w.size;
    bound = λ v. elim (cases_eq v e.from) [
      | inl q ↦ le_far _ _ (ap (slice_index after) q) own
      | inr k ↦ le_same _ _ (there v k) (w.bound v)
    ];
    goals = same_goal;
    steps = λ v some h. elim (was v h) [
      | inl q ↦ subst (λ u. HasStep ok edges after u) (sym q) own_step
      | inr k ↦ step_kept v k.1 (w.steps v (pos _ _ (there v k.0) some) k.1)
    ];
    few = λ v h. elim (was v h) [
      | inl q ↦ few_new _ _ _ (ap (slice_index after) q ∙ own) fewer (w.few at near_far)
      | inr k ↦ few_old _ _ _ _ (there v k.0) fewer (w.few v k.1)
    ];
    listed = λ v low h. elim (was v h) [
      | inl q ↦ (length queue, item_last queue e.from ∙ ap Some (sym q))
      | inr k ↦ let (i, at_i) = w.listed v low k.1 in (i, item_front queue (e.from ∷ []) i v at_i)
    ];
    members = λ i v h. elim (placed i v h) [
      | inl k ↦ ((w.members i v k.0).0, lt_eq _ _ k.1 k.2)
      | inr k ↦ (subst (λ u. u < length goal) (sym k.1) (omega (arith, inside, w.size)), lt_room _ k.2)
    ];
    order = λ i j v x le hi hj. elim (placed i v hi) [
      | inl k ↦ elim (placed j x hj) [
        | inl m ↦ both _ _ _ _ k.1 m.1 (w.order i j v x le k.0 m.0)
        | inr m ↦ up _ _ _ k.1 (w.within head at v (omega arith) here k.2) m.2
      ]
      | inr k ↦ elim (placed j x hj) [
        | inl m ↦ absurd (past i j le k.0 (item_within queue j x m.0))
        | inr m ↦ same _ _ k.2 m.2
      ]
    ];
    within = λ i v x low hi hx. elim (placed i v hi) [
      | inl k ↦ elim (was x hx) [
        | inl q ↦ next _ _ _ (ap (slice_index after) q ∙ own) k.1 (w.order head i at v low here k.0)
        | inr m ↦ near_by _ _ _ _ (there x m.0) k.1 (w.within i v x low k.0 m.1)
      ]
      | inr k ↦ elim (was x hx) [
        | inl q ↦ level _ _ (ap (slice_index after) q ∙ own) k.2
        | inr m ↦ below_new _ _ _ (there x m.0) k.2 (w.within head at x (omega arith) here m.1)
      ]
    ];
    front = omega (arith, w.front, length_pushed queue e.from);
    done = λ i m f low hi isf on. elim (placed i f.to hi) [
      | inl k ↦ nearby_kept f k.2 (w.done i m f low k.0 isf on)
      | inr k ↦ absurd (not_done i low k.0)
    ];
  }
    where
      le_far : (a b : ℕ) → a ≡ b → b ≡ near + 1 → a ≤ FAR
      le_far a b p q = omega (arith, room)

      le_same : (a b : ℕ) → a ≡ b → b ≤ FAR → a ≤ FAR
      le_same a b p q = omega arith

      pos : (a b : ℕ) → a ≡ b → 0 < a → 0 < b
      pos a b p q = omega arith

      few_new : (a u o : ℕ) → a ≡ near + 1 → u < o → near + o ≤ length goal → a + u ≤ length goal
      few_new a u o p q r = omega arith

      few_old : (a b u o : ℕ) → a ≡ b → u < o → b + o ≤ length goal → a + u ≤ length goal
      few_old a b u o p q r = omega arith

      lt_eq : (a b : ℕ) → a ≡ b → b < FAR → a < FAR
      lt_eq a b p q = omega arith

      lt_room : (a : ℕ) → a ≡ near + 1 → a < FAR
      lt_room a p = omega (arith, room)

      both : (a b c d : ℕ) → a ≡ b → c ≡ d → b ≤ d → a ≤ c
      both a b c d p q r = omega arith

      up : (a b c : ℕ) → a ≡ b → b ≤ near + 1 → c ≡ near + 1 → a ≤ c
      up a b c p q r = omega arith

      past : (i j : ℕ) → i ≤ j → i ≡ length queue → j < length queue → ⊥
      past i j p q r = omega arith

      same : (a b : ℕ) → a ≡ near + 1 → b ≡ near + 1 → a ≤ b
      same a b p q = omega arith

      next : (a b c : ℕ) → a ≡ near + 1 → b ≡ c → near ≤ c → a ≤ b + 1
      next a b c p q r = omega arith

      near_by : (a b c d : ℕ) → a ≡ b → c ≡ d → b ≤ d + 1 → a ≤ c + 1
      near_by a b c d p q r = omega arith

      level : (a b : ℕ) → a ≡ near + 1 → b ≡ near + 1 → a ≤ b + 1
      level a b p q = omega arith

      below_new : (a b c : ℕ) → a ≡ b → c ≡ near + 1 → b ≤ near + 1 → a ≤ c + 1
      below_new a b c p q r = omega arith

      not_done : (i : ℕ) → i < head → i ≡ length queue → ⊥
      not_done i p q = omega (arith, w.front)

-- the edges of the node at the head that are looked at: those above n, in the chain of its edges
pub record Widened (ok : ℕ → Bool) (edges : List GraphEdge) (goal : List Bool) (ds queue : List ℕ) (head at n total : ℕ) : Type 0 where
  pub spread : Spread ok edges goal ds queue head
  pub here : item_at queue head ≡ Some at
  pub link : IsLink (ends edges) at n
  pub passed : (m : ℕ) (e : GraphEdge) → item_at edges m ≡ Some e → e.to ≡ at → (n ≡ NO_EDGE) ⊎ (n < m) → ok m ≡ true → NearBy ds e
  pub fewer : length queue + unreached ds ≤ total

pub length_ends : (edges : List GraphEdge) → length (ends edges) ≡ length edges
length_ends edges = length-map edges (λ e. e.to)

end_at : (edges : List GraphEdge) (m : ℕ) (e : GraphEdge) (at : ℕ) → item_at edges m ≡ Some e → e.to ≡ at → item_at (ends edges) m ≡ Some at
end_at edges m e at is to = item_of_map (λ e. e.to) edges m e is ∙ ap Some to

pub widened_start : (ok : ℕ → Bool) (edges : List GraphEdge) (goal : List Bool) (ds queue : List ℕ) (head at n : ℕ) → Spread ok edges goal ds queue head → item_at queue head ≡ Some at
    → IsLast (ends edges) at (length (ends edges)) n → IsLink (ends edges) at n → length edges ≤ NO_EDGE → Widened ok edges goal ds queue head at n (length queue + unreached ds)
widened_start ok edges goal ds queue head at n s here last link few = record {
  spread = s;
  here = here;
  link = link;
  passed = λ m e is to above on.
      absurd (none_above (ends edges) at (length (ends edges)) n last (subst (λ k. k ≤ NO_EDGE) (sym (length_ends edges)) few) m (subst (λ k. m < k) (sym (length_ends edges)) (item_within edges m e is)) (end_at edges m e at is to) above);
  fewer = omega arith;
}

-- the next edge of the chain
module _ (ok : ℕ → Bool) (edges : List GraphEdge) (goal : List Bool) (ds queue : List ℕ) (head at n n' total : ℕ) (few : length edges ≤ NO_EDGE) (e : GraphEdge) (is : item_at edges n ≡ Some e) (last : IsLast (ends edges) at n n') (link : IsLink (ends edges) at n') where
  below : n ≤ NO_EDGE
  below = omega (arith, item_within edges n e is, few)

  which : (m : ℕ) → (m < n) ⊎ ((m ≡ n) ⊎ (n < m))
  which m = elim (cases_lt m n) [ inl k ↦ inl k | inr k ↦ elim (cases_lt n m) [ inl h ↦ inr (inr h) | inr h ↦ inr (inl (omega arith)) ] ]

  -- it is looked at, and the distances stay
  pub widened_skip : (ok n ≡ true → NearBy ds e) → Widened ok edges goal ds queue head at n total → Widened ok edges goal ds queue head at n' total
  widened_skip known w = record {
    spread = w.spread;
    here = w.here;
    link = link;
    passed = λ m f isf to above on. elim (which m) [
      | inl low ↦ absurd (none_above (ends edges) at n n' last below m low (end_at edges m f at isf to) above)
      | inr (inl q) ↦ subst (NearBy ds) (one_item edges m e f (ap (item_at edges) q ∙ is) isf) (known (subst (λ k. ok k ≡ true) q on))
      | inr (inr h) ↦ w.passed m f isf to (inr h) on
    ];
    fewer = w.fewer;
  }

  -- it gives its begin a distance
  pub widened_found : (may : ok n ≡ true) (inside : e.from < length ds) (to : e.to ≡ at) (new : slice_index ds e.from ≡ FAR) (small : length goal < FAR) → Widened ok edges goal ds queue head at n total
      → Widened ok edges goal (slice_set ds e.from (slice_index ds at + 1)) (queue ++ e.from ∷ []) head at n' total
  widened_found may inside to new small w = record {
    spread = spread_found ok edges goal ds queue head at n e is may inside w.here to new small w.spread;
    here = item_front queue (e.from ∷ []) head at w.here;
    link = link;
    passed = λ m f isf to_f above on. elim (which m) [
      | inl low ↦ absurd (none_above (ends edges) at n n' last below m low (end_at edges m f at isf to_f) above)
      | inr (inl q) ↦
          subst (NearBy (slice_set ds e.from (slice_index ds at + 1))) (one_item edges m e f (ap (item_at edges) q ∙ is) isf)
          (own_nearby ok edges goal ds queue head at n e is may inside w.here to new small w.spread)
      | inr (inr h) ↦
          nearby_kept ok edges goal ds queue head at n e is may inside w.here to new small w.spread f
          (subst (λ u. slice_index ds u < FAR) (sym to_f) (w.spread.members head at w.here).1) (w.passed m f isf to_f (inr h) on)
    ];
    fewer = omega (arith, w.fewer, length_pushed queue e.from, fewer ok edges goal ds queue head at n e is may inside w.here to new small w.spread);
  }

-- an edge to the node at the head whose begin has a distance
pub near_already : (ok : ℕ → Bool) (edges : List GraphEdge) (goal : List Bool) (ds queue : List ℕ) (head at : ℕ) (e : GraphEdge) → Spread ok edges goal ds queue head → item_at queue head ≡ Some at → e.to ≡ at → slice_index ds e.from ≢ FAR → NearBy ds e
near_already ok edges goal ds queue head at e s here to ne =
    let r : slice_index ds e.from < FAR = lt _ (s.bound e.from) ne in
    record { reached = r; near = le _ _ _ (s.within head at e.from (omega arith) here r) (ap (slice_index ds) to) }
  where
    lt : (a : ℕ) → a ≤ FAR → a ≢ FAR → a < FAR
    lt a h n = omega arith

    le : (a b c : ℕ) → a ≤ b + 1 → c ≡ b → a ≤ c + 1
    le a b c p q = omega arith

-- all edges of the node at the head are looked at
pub widened_end : (ok : ℕ → Bool) (edges : List GraphEdge) (goal : List Bool) (ds queue : List ℕ) (head at n total : ℕ) → n ≡ NO_EDGE → Widened ok edges goal ds queue head at n total → Spread ok edges goal ds queue (head + 1)
widened_end ok edges goal ds queue head at n total none w =
    let s = w.spread in
    record {
      size = s.size;
      bound = s.bound;
      goals = s.goals;
      steps = s.steps;
      few = s.few;
      listed = s.listed;
      members = s.members;
      order = s.order;
      within = λ i v x low. s.within i v x (omega arith);
      front = omega (arith, item_within queue head at w.here);
      done = λ i m e low hi is on. elim (cases_lt i head) [
        | inl k ↦ s.done i m e k hi is on
        | inr k ↦ w.passed m e is (one_item queue i e.to at hi (ap (item_at queue) (same i low k) ∙ w.here)) (inl none) on
      ];
    }
  where
    same : (i : ℕ) → i < head + 1 → head ≤ i → i ≡ head
    same i p q = omega arith

-- where all found nodes are done the distances are whole
pub spread_whole : (ok : ℕ → Bool) (edges : List GraphEdge) (goal : List Bool) (ds queue : List ℕ) (head : ℕ) → length queue ≤ head → EndsIn (length goal) edges → Spread ok edges goal ds queue head → AreDistances ok edges goal ds
spread_whole ok edges goal ds queue head le within s = record {
  size = s.size;
  bound = s.bound;
  goals = s.goals;
  steps = s.steps;
  nearby = λ n e is on h.
      let (i, at) = s.listed e.to (within n e is).to_in h in
      s.done i n e (lt i (item_within queue i e.to at)) at is on;
}
  where
    lt : (i : ℕ) → i < length queue → i < head
    lt i p = omega arith

-- the goals, which stand at 0

at_zero : (goal : List Bool) (v : ℕ) → is_goal goal v ≡ true → slice_index (map start_of goal) v ≡ 0
at_zero [] v g = refl
at_zero (true ∷ gs) zero g = refl
at_zero (false ∷ gs) zero g = cc
at_zero (x ∷ gs) (suc v) g = at_zero gs v g

marked_within : (goal : List Bool) (v : ℕ) → is_goal goal v ≡ true → v < length goal
marked_within [] v g = cc
marked_within (x ∷ gs) zero g = omega arith
marked_within (x ∷ gs) (suc v) g = let k : v < length gs = marked_within gs v g in omega (arith, k)

marked : (goal : List Bool) (v : ℕ) → v < length goal → slice_index (map start_of goal) v < FAR → is_goal goal v ≡ true
marked [] v low h = absurd (omega arith)
marked (true ∷ gs) zero low h = refl
marked (false ∷ gs) zero low h = absurd (omega arith)
marked (x ∷ gs) (suc v) low h = marked gs v (omega arith) h

in_range : (a n i : ℕ) → i < n → item_at (range_with_len a n) i ≡ Some (a + i)
in_range a zero i low = absurd (omega arith)
in_range a (suc n) zero low = ap Some (omega arith)
in_range a (suc n) (suc i) low = in_range (a + 1) n i (omega arith) ∙ ap Some (omega arith)

in_filter : (p : ℕ → Bool) (xs : List ℕ) (i v : ℕ) → item_at xs i ≡ Some v → p v ≡ true → (j : ℕ) × (item_at (filter p xs) j ≡ Some v)
in_filter p [] i v at on = cc
in_filter p (x ∷ xs) zero v at on = let same : x ≡ v = cc in (0, ap (λ b. item_at (cond b (x ∷ filter p xs) (filter p xs)) 0) (ap p same ∙ on) ∙ ap Some same)
in_filter p (x ∷ xs) (suc i) v at on = by (p x) (in_filter p xs i v at on)
  where
    by : (b : Bool) → (j : ℕ) × (item_at (filter p xs) j ≡ Some v) → (j : ℕ) × (item_at (cond b (x ∷ filter p xs) (filter p xs)) j ≡ Some v)
    by true (j, is) = (suc j, is)
    by false (j, is) = (j, is)

of_filter : (p : ℕ → Bool) (xs : List ℕ) (j v : ℕ) → item_at (filter p xs) j ≡ Some v → p v ≡ true
of_filter p [] j v at = cc
of_filter p (x ∷ xs) j v at = by (p x) refl (of_filter p xs) j at
  where
    by : (b : Bool) → p x ≡ b → ((k u : ℕ) → item_at (filter p xs) k ≡ Some u → p u ≡ true) → (j : ℕ) → item_at (cond b (x ∷ filter p xs) (filter p xs)) j ≡ Some v → p v ≡ true
    by true on rest zero at = let same : x ≡ v = cc in subst (λ z. p z ≡ true) same on
    by true on rest (suc j) at = rest j v at
    by false on rest j at = rest j v at

pub spread_start : (ok : ℕ → Bool) (edges : List GraphEdge) (goal : List Bool) → Spread ok edges goal (map start_of goal) (filter (is_goal goal) (range_with_len 0 (length goal))) 0
spread_start ok edges goal = record {
  size = length-map goal start_of;
  bound = λ v. at_most v goal;
  goals = λ v h. (λ z. goal_is v goal z h, λ g. at_goal v goal g);
  steps = λ v some h. absurd (neither v goal some h);
  few = λ v h. few_first _ _ _ (zero_only v goal h) (unreached_at_most (map start_of goal)) (length-map goal start_of);
  listed = λ v low h. in_filter (is_goal goal) (range_with_len 0 (length goal)) v v (in_range 0 (length goal) v low ∙ ap Some (omega arith)) (marked goal v low h);
  members = λ i v at. let g = of_filter (is_goal goal) (range_with_len 0 (length goal)) i v at in (marked_within goal v g, zero_far _ (at_zero goal v g));
  order = λ i j v x le hi hj. least _ _ (at_zero goal v (of_filter (is_goal goal) (range_with_len 0 (length goal)) i v hi));
  within = λ i v x low hi h. zero_up _ _ (zero_only x goal h);
  front = omega arith;
  done = λ i n e low. absurd (none i low);
}
  where
    none : (a : ℕ) → a < 0 → ⊥
    none a h = omega arith

    zero_far : (a : ℕ) → a ≡ 0 → a < FAR
    zero_far a h = omega arith

    least : (a b : ℕ) → a ≡ 0 → a ≤ b
    least a b h = omega arith

    zero_up : (a b : ℕ) → a ≤ 0 → a ≤ b + 1
    zero_up a b h = omega arith

    few_first : (a u n : ℕ) → a ≤ 0 → u ≤ n → n ≡ length goal → a + u ≤ length goal
    few_first a u n p q r = omega arith

    at_most : (v : ℕ) (goal : List Bool) → slice_index (map start_of goal) v ≤ FAR
    at_most v [] = omega arith
    at_most zero (true ∷ gs) = omega arith
    at_most zero (false ∷ gs) = omega arith
    at_most (suc v) (g ∷ gs) = at_most v gs

    goal_is : (v : ℕ) (goal : List Bool) → slice_index (map start_of goal) v ≡ 0 → v < length goal → slice_get goal v ≡ Some true
    goal_is v [] z h = absurd (none _ h)
    goal_is zero (true ∷ gs) z h = refl
    goal_is zero (false ∷ gs) z h = absurd (omega arith)
    goal_is (suc v) (g ∷ gs) z h = goal_is v gs z (omega arith)

    at_goal : (v : ℕ) (goal : List Bool) → slice_get goal v ≡ Some true → slice_index (map start_of goal) v ≡ 0
    at_goal v [] g = refl
    at_goal zero (true ∷ gs) g = refl
    at_goal zero (false ∷ gs) g = cc
    at_goal (suc v) (x ∷ gs) g = at_goal v gs g

    neither : (v : ℕ) (goal : List Bool) → 0 < slice_index (map start_of goal) v → slice_index (map start_of goal) v < FAR → ⊥
    neither v [] s h = omega arith
    neither zero (true ∷ gs) s h = omega arith
    neither zero (false ∷ gs) s h = omega arith
    neither (suc v) (g ∷ gs) s h = neither v gs s h

    zero_only : (v : ℕ) (goal : List Bool) → slice_index (map start_of goal) v < FAR → slice_index (map start_of goal) v ≤ 0
    zero_only v [] h = omega arith
    zero_only zero (true ∷ gs) h = omega arith
    zero_only zero (false ∷ gs) h = omega arith
    zero_only (suc v) (g ∷ gs) h = zero_only v gs h
