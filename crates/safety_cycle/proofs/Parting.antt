-- Ranks part at a marked edge that lies on no cycle, and tell the least cycle.
use Rattle.std.proofs.Common.{◌≡◌, ℕ, zero, suc, ◌+◌, ◌<◌, ◌≤◌, ◌⊎◌, inl, inr, Bool, true, false, ◌||◌, ◌&&◌, not, nat_lt, nat_eq, List, [], ◌∷◌, length, Some, None, slice_index, refl, sym, ◌∙◌, ap, subst, arith}
use Rattle.std.specs.Prelude.{if◌then◌else◌}
use Rattle.std.proofs.lemmas.Bool.{cases_lt, cases_order, eqb-true, eq-eqb, ne_eqb, lt-ltb, le-ltb, false≢true}
use Rattle.gtrbac_model.specs.Graph.{Arc, Path, LeadsAlong, IsWalk, IsLeastWalk, NotAfter, item_at}
use Rattle.least_walk.specs.declared.graphs.GraphEdge.{GraphEdge}
use Rattle.least_walk.specs.Net.{Net, EndsIn, arc_of, arcs_of, is_marked}
use Rattle.least_walk.specs.Walks.{is_goal, IsReach, HasNoWalk}
use Rattle.least_walk.proofs.Items.{item_within, item_map, item_of_map, one_item}
use Rattle.least_walk.proofs.Descending.{goal_get}
use Rattle.gtrbac_model.specs.Cycles.{Closes, NotLonger, IsLeastCycle, Climbs, AreLevels}
use Rattle.walk_laws.proofs.Levels.{along, levels_leave_no_cycle}
use Rattle.safety_cycle.specs.Judged.{IsStratified}
use Rattle.safety_cycle.specs.Ranks.{AreRanks, lifted}

-- the edge of this number is marked, and its ends have one rank
pub record IsLevelMark (edges : List GraphEdge) (ranks : List ℕ) (n : ℕ) : Type 0 where
  pub edge : GraphEdge
  pub is : item_at edges n ≡ Some edge
  pub marked : edge.marked ≡ true
  pub level : slice_index ranks edge.from ≡ slice_index ranks edge.to

-- what lifting does to a rank
record Lift (rank r : ℕ) (marked : Bool) (l : ℕ) : Type 0 where
  above : rank < r → l ≡ r + 1
  apart : r ≡ rank → marked ≡ false → l ≡ r + 1
  kept : r ≡ rank → marked ≡ true → l ≡ r
  below : r < rank → l ≡ r
  least : r ≤ l
  most : l ≤ r + 1

lift_of : (rank r : ℕ) (marked : Bool) → Lift rank r marked (lifted rank r marked)
lift_of rank r marked =
    record {
      above = λ h. up (nat_lt rank r || (nat_eq r rank && not marked)) r (ap (λ b. b || (nat_eq r rank && not marked)) (lt-ltb rank r h));
      apart = λ e m. up (nat_lt rank r || (nat_eq r rank && not marked)) r
          (ap (λ b. b || (nat_eq r rank && not marked)) (le-ltb rank r (eq_le e)) ∙ ap (λ b. b && not marked) (eq-eqb r rank e) ∙ ap not m);
      kept = λ e m. down (nat_lt rank r || (nat_eq r rank && not marked)) r
          (ap (λ b. b || (nat_eq r rank && not marked)) (le-ltb rank r (eq_le e)) ∙ ap (λ b. b && not marked) (eq-eqb r rank e) ∙ ap not m);
      below = λ h. down (nat_lt rank r || (nat_eq r rank && not marked)) r
          (ap (λ b. b || (nat_eq r rank && not marked)) (le-ltb rank r (lt_le h)) ∙ ap (λ b. b && not marked) (ne_eqb r rank (differ h)));
      least = at_least (nat_lt rank r || (nat_eq r rank && not marked)) r;
      most = at_most (nat_lt rank r || (nat_eq r rank && not marked)) r;
    }
  where
    up : (b : Bool) (r : ℕ) → b ≡ true → (if b then r + 1 else r) ≡ r + 1
    up true r h = refl
    up false r h = absurd (false≢true h)

    down : (b : Bool) (r : ℕ) → b ≡ false → (if b then r + 1 else r) ≡ r
    down true r h = absurd (false≢true (sym h))
    down false r h = refl

    at_least : (b : Bool) (r : ℕ) → r ≤ (if b then r + 1 else r)
    at_least true r = omega arith
    at_least false r = omega arith

    at_most : (b : Bool) (r : ℕ) → (if b then r + 1 else r) ≤ r + 1
    at_most true r = omega arith
    at_most false r = omega arith

    eq_le : r ≡ rank → r ≤ rank
    eq_le e = omega arith

    lt_le : r < rank → r ≤ rank
    lt_le e = omega arith

    differ : r < rank → r ≡ rank → ⊥
    differ h e = omega arith

lift_rises : (rank r s l m : ℕ) (b c : Bool) → Lift rank r b l → Lift rank s c m → r < s → l < m
lift_rises rank r s l m b c x y h =
    elim (cases_lt r rank) [
      | inl low ↦ let e : l ≡ r = x.below low in let k : s ≤ m = y.least in omega arith
      | inr up ↦ let e : m ≡ s + 1 = y.above (omega arith) in let k : l ≤ r + 1 = x.most in omega arith
    ]

lift_stays : (rank r s l m : ℕ) (b c : Bool) → Lift rank r b l → Lift rank s c m → (c ≡ true → b ≡ true) → r ≤ s → l ≤ m
lift_stays rank r s l m b c x y f h =
    elim (cases_lt r s) [
      | inl less ↦ let k : l < m = lift_rises rank r s l m b c x y less in omega arith
      | inr ge ↦ elim (cases_order r rank) [
        | inl e ↦ at_rank b c f x y e (omega arith)
        | inr w ↦ elim w [
          | inl low ↦ let p : l ≡ r = x.below low in let k : s ≤ m = y.least in omega arith
          | inr up ↦ let p : l ≡ r + 1 = x.above up in let q : m ≡ s + 1 = y.above (omega arith) in omega arith
        ]
      ]
    ]
  where
    at_rank : (b c : Bool) → (c ≡ true → b ≡ true) → Lift rank r b l → Lift rank s c m → r ≡ rank → s ≡ rank → l ≤ m
    at_rank true c f x y p q = let e : l ≡ r = x.kept p refl in let k : s ≤ m = y.least in omega arith
    at_rank false true f x y p q = absurd (false≢true (f refl))
    at_rank false false f x y p q = let e : l ≡ r + 1 = x.apart p refl in let k : m ≡ s + 1 = y.apart q refl in omega arith

module _ (nodes : ℕ) (edges : List GraphEdge) (ranks after : List ℕ) (reach : List Bool) (goal : ℕ → Bool) (n rank : ℕ) (ends : EndsIn nodes edges) (old : AreRanks nodes edges ranks n) (mark : IsLevelMark edges ranks n)
    (rank_is : rank ≡ slice_index ranks mark.edge.from) (size : length after ≡ length ranks) (reached : IsReach edges goal reach)
    (from_in : is_goal reach mark.edge.from ≡ true) (to_out : is_goal reach mark.edge.to ≡ false) (lift : (v : ℕ) → v < length ranks → slice_index after v ≡ lifted rank (slice_index ranks v) (is_goal reach v)) where
  lift_at : (v : ℕ) → v < nodes → Lift rank (slice_index ranks v) (is_goal reach v) (slice_index after v)
  lift_at v h = subst (λ l. Lift rank (slice_index ranks v) (is_goal reach v) l) (sym (lift v (inside h))) (lift_of rank (slice_index ranks v) (is_goal reach v))
    where
      inside : v < nodes → v < length ranks
      inside h = subst (λ k. v < k) (sym old.size) h

  past : (xs : List ℕ) (v : ℕ) → length xs ≤ v → slice_index xs v ≡ 0
  past [] v h = refl
  past (x ∷ xs) zero h = absurd (omega arith)
  past (x ∷ xs) (suc v) h = past xs v (omega arith)

  pub parted : AreRanks nodes edges after (n + 1)
  parted =
      record {
        size = size ∙ old.size;
        never_fall = λ m e is.
            let k = ends m e is in
            lift_stays rank _ _ _ _ _ _ (lift_at e.from k.from_in) (lift_at e.to k.to_in) (reached.closed m e is) (old.never_fall m e is);
        rise = λ m e h is marked. elim (next_or_before m h) [
          | inl lt ↦ let k = ends m e is in lift_rises rank _ _ _ _ _ _ (lift_at e.from k.from_in) (lift_at e.to k.to_in) (old.rise m e lt is marked)
          | inr eq ↦ newest e (one_item edges n e mark.edge (ap (item_at edges) (sym eq) ∙ is) mark.is)
        ];
        bound = λ v. elim (cases_lt v nodes) [
          | inl h ↦ more _ _ (lift_at v h).most (old.bound v)
          | inr h ↦ none _ _ (past after v (subst (λ k. k ≤ v) (sym (size ∙ old.size)) h)) (old.bound v)
        ];
      }
    where
      next_or_before : (a : ℕ) → a < n + 1 → (a < n) ⊎ (a ≡ n)
      next_or_before a h = elim (cases_lt a n) [ inl k ↦ inl k | inr k ↦ inr (omega arith) ]

      more : (l r : ℕ) → l ≤ r + 1 → r + length edges ≤ 4_294_967_295 + n → l + length edges ≤ 4_294_967_295 + (n + 1)
      more l r p q = omega arith

      none : (r l : ℕ) → l ≡ 0 → r + length edges ≤ 4_294_967_295 + n → l + length edges ≤ 4_294_967_295 + (n + 1)
      none r l p q = omega arith

      newest : (e : GraphEdge) → e ≡ mark.edge → slice_index after e.from < slice_index after e.to
      newest e q =
          let k = ends n mark.edge mark.is in
          let low : slice_index after mark.edge.from ≡ slice_index ranks mark.edge.from = (lift_at mark.edge.from k.from_in).kept (sym rank_is) from_in in
          let high : slice_index after mark.edge.to ≡ slice_index ranks mark.edge.to + 1 = (lift_at mark.edge.to k.to_in).apart (sym mark.level ∙ sym rank_is) to_out in
          subst (λ f. slice_index after f.from < slice_index after f.to) (sym q) (between _ _ _ _ low mark.level high)
        where
          between : (a b c d : ℕ) → a ≡ b → b ≡ c → d ≡ c + 1 → a < d
          between a b c d p q r = omega arith

marked_edge : (edges : List GraphEdge) (n : ℕ) (e : GraphEdge) → item_at edges n ≡ Some e → is_marked edges n ≡ e.marked
marked_edge edges n e is = ap (λ o. elim o [ Some f ↦ f.marked | None ↦ false ]) is

-- all marked edges rise: levels
pub stratified : (g : Net) (ranks : List ℕ) (n : ℕ) → length g.edges ≤ n → AreRanks g.nodes g.edges ranks n → IsStratified g ranks
stratified g ranks n le r = record { size = r.size; climbs = climbs; safe = levels_leave_no_cycle (arcs_of g.edges) (is_marked g.edges) (slice_index ranks) climbs }
  where
    lt : (a b c : ℕ) → a < b → b ≤ c → a < c
    lt a b c p q = omega arith

    climbs : AreLevels (arcs_of g.edges) (is_marked g.edges) (slice_index ranks)
    climbs m arc is =
        let (e, ise, same) = item_map arc_of g.edges m arc is in
        subst (λ a. Climbs (is_marked g.edges) (slice_index ranks) m a) (sym same)
        (record {
          stays = r.never_fall m e ise;
          rises = λ k. r.rise m e (lt _ _ _ (item_within g.edges m e ise) le) ise (sym (marked_edge g.edges m e ise) ∙ k);
        })

-- an edge that is not marked, or whose ends have different ranks
pub passed : (nodes : ℕ) (edges : List GraphEdge) (ranks : List ℕ) (n : ℕ) (e : GraphEdge) → item_at edges n ≡ Some e → AreRanks nodes edges ranks n
    → (e.marked ≡ true → slice_index ranks e.from ≡ slice_index ranks e.to → ⊥) → AreRanks nodes edges ranks (n + 1)
passed nodes edges ranks n e is old other =
    record {
      size = old.size;
      never_fall = old.never_fall;
      rise = λ m f h isf marked. elim (next_or_before m h) [
        | inl lt ↦ old.rise m f lt isf marked
        | inr eq ↦ newest m f isf marked (one_item edges n f e (ap (item_at edges) (sym eq) ∙ isf) is)
      ];
      bound = λ v. more _ (old.bound v);
    }
  where
    next_or_before : (a : ℕ) → a < n + 1 → (a < n) ⊎ (a ≡ n)
    next_or_before a h = elim (cases_lt a n) [ inl k ↦ inl k | inr k ↦ inr (omega arith) ]

    more : (r : ℕ) → r + length edges ≤ 4_294_967_295 + n → r + length edges ≤ 4_294_967_295 + (n + 1)
    more r p = omega arith

    strict : (a b : ℕ) → a ≤ b → (a ≡ b → ⊥) → a < b
    strict a b p q = elim (cases_lt a b) [ inl k ↦ k | inr k ↦ absurd (q (omega arith)) ]

    newest : (m : ℕ) (f : GraphEdge) → item_at edges m ≡ Some f → f.marked ≡ true → f ≡ e → slice_index ranks f.from < slice_index ranks f.to
    newest m f isf marked q = strict _ _ (old.never_fall m f isf) (λ k. other (subst (λ g. g.marked ≡ true) q marked) (subst (λ g. slice_index ranks g.from ≡ slice_index ranks g.to) q k))

-- the goals are the begin of the edge alone
abbrev pub IsOnly : ℕ → List Bool → ℕ → Type 0
IsOnly nodes goal node = (v : ℕ) → v < nodes → is_goal goal v ≡ nat_eq v node

-- the marked edge and the least walk back are the least cycle
pub told : (nodes : ℕ) (edges : List GraphEdge) (ranks : List ℕ) (n : ℕ) (goal : List Bool) (mark : IsLevelMark edges ranks n) (p : Path ℕ) → EndsIn nodes edges → AreRanks nodes edges ranks n → length goal ≡ nodes → IsOnly nodes goal mark.edge.from
    → IsLeastWalk (arcs_of edges) (is_goal goal) (mark.edge.to ∷ []) p → IsLeastCycle (arcs_of edges) (is_marked edges) (n ∷ p.arcs)
told nodes edges ranks n goal mark p ends old size only walk =
    record {
      first = n;
      back = p.arcs;
      is = refl;
      closes = record {
        arc = arc_of mark.edge;
        is = item_of_map arc_of edges n mark.edge mark.is;
        is_marked = marked_edge edges n mark.edge mark.is ∙ mark.marked;
        leads = subst (λ b. LeadsAlong (arcs_of edges) mark.edge.to p.arcs b) (the_goal walk.is_walk.end walk.is_walk.reaches) (subst (λ a. LeadsAlong (arcs_of edges) a p.arcs walk.is_walk.end) (the_start walk.place p.start walk.is_walk.from_start) walk.is_walk.leads);
      };
      earliest = λ m other c. elim (cases_lt m n) [ inl lt ↦ absurd (not_before m other c lt) | inr le ↦ le ];
      shortest = λ other c. not_longer walk.place p.arcs other (walk.least 0 (record { start = mark.edge.to; arcs = other }) (closing other c));
    }
  where
    the_goal : (v : ℕ) → is_goal goal v ≡ true → v ≡ mark.edge.from
    the_goal v h = eqb-true v mark.edge.from (sym (only v (subst (λ k. v < k) size (goal_get goal v h).0)) ∙ h)

    the_start : (place s : ℕ) → item_at (mark.edge.to ∷ []) place ≡ Some s → s ≡ mark.edge.to
    the_start zero s h = cc
    the_start (suc i) s h = cc

    is_begin : is_goal goal mark.edge.from ≡ true
    is_begin = only mark.edge.from (ends n mark.edge mark.is).from_in ∙ eq-eqb mark.edge.from mark.edge.from refl

    same_arc : (m : ℕ) (other : List ℕ) (c : Closes (arcs_of edges) (is_marked edges) m other) → (e : GraphEdge) × (item_at edges m ≡ Some e) × (c.arc ≡ arc_of e)
    same_arc m other c = item_map arc_of edges m c.arc c.is

    closing : (other : List ℕ) → Closes (arcs_of edges) (is_marked edges) n other → IsWalk (arcs_of edges) (is_goal goal) (mark.edge.to ∷ []) 0 (record { start = mark.edge.to; arcs = other })
    closing other c =
        let (e, ise, same) = same_arc n other c in
        let q : e ≡ mark.edge = one_item edges n e mark.edge ise mark.is in
        let arc : c.arc ≡ arc_of mark.edge = same ∙ ap arc_of q in
        record {
          end = mark.edge.from;
          from_start = refl;
          leads = subst (λ a. LeadsAlong (arcs_of edges) a.to other a.from) arc c.leads;
          reaches = is_begin;
        }

    not_longer : (place : ℕ) (back other : List ℕ) → NotAfter place (record { start = p.start; arcs = back }) 0 (record { start = mark.edge.to; arcs = other }) → NotLonger back other
    not_longer place back other (inl h) = inl h
    not_longer place back other (inr (h, inl k)) = absurd (omega arith)
    not_longer place back other (inr (h, inr (_, k))) = inr (h, k)

    not_before : (m : ℕ) (other : List ℕ) → Closes (arcs_of edges) (is_marked edges) m other → m < n → ⊥
    not_before m other c lt =
        let (e, ise, same) = same_arc m other c in
        let marked : e.marked ≡ true = sym (marked_edge edges m e ise) ∙ c.is_marked in
        let up = old.rise m e lt ise marked in
        let back = along (arcs_of edges) (slice_index ranks) stays c.arc.to c.arc.from other c.leads in
        against _ _ _ _ up back (ap (λ a. slice_index ranks a.to) same) (ap (λ a. slice_index ranks a.from) same)
      where
        stays : (k : ℕ) (arc : Arc ℕ) → item_at (arcs_of edges) k ≡ Some arc → slice_index ranks arc.from ≤ slice_index ranks arc.to
        stays k arc is =
            let (e, ise, same) = item_map arc_of edges k arc is in
            subst (λ a. slice_index ranks a.from ≤ slice_index ranks a.to) (sym same) (old.never_fall k e ise)

        against : (f t a b : ℕ) → f < t → a ≤ b → a ≡ t → b ≡ f → ⊥
        against f t a b p q r s = omega arith

-- with no walk back, the end is not among the nodes that reach the begin
pub end_is_out : (edges : List GraphEdge) (goal : ℕ → Bool) (reach : List Bool) (to : ℕ) → IsReach edges goal reach → HasNoWalk (arcs_of edges) goal (to ∷ []) → is_goal reach to ≡ false
end_is_out edges goal reach to reached none = go (is_goal reach to) refl
  where
    go : (b : Bool) → is_goal reach to ≡ b → b ≡ false
    go false q = refl
    go true q =
        let (ms, end, leads, g) = reached.walks to q in
        absurd (none 0 (record { start = to; arcs = ms }) (record { end = end; from_start = refl; leads = leads; reaches = g }))
