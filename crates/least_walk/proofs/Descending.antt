-- First steps down to a goal are the least walk.
use Rattle.std.proofs.Common.{◌≡◌, ℕ, zero, suc, ◌+◌, ◌<◌, ◌≤◌, ◌⊎◌, inl, inr, Bool, true, List, [], ◌∷◌, length, map, Some, slice_index, refl, sym, ◌∙◌, ap, subst, arith}
use Rattle.std.specs.List.{slice_get}
use Rattle.std.specs.Ordering.{nat_cmp, is_le, ordering_then}
use Rattle.std.specs.Cmp.{nat_cmp_is}
use Rattle.std.specs.declared.cmp.Ordering.TheVariants.{Less, Equal}
use Rattle.std.specs.Cmp.Lexicographic.{slice_cmp}
use Rattle.std.proofs.lemmas.Bool.{cases_lt}
use Rattle.least_walk.specs.declared.graphs.GraphEdge.{GraphEdge}
use Rattle.std.specs.List.{enumerate_from}
use Rattle.least_walk.specs.Net.{EndsIn, arc_of, arcs_of, arcs_by, every}
use Rattle.least_walk.specs.Distances.{AreDistances}
use Rattle.least_walk.specs.Walks.{is_goal, HasNoWalk, Descends, IsNearest, AllFar}
use Rattle.least_walk.proofs.Items.{item_numbered, item_of_numbered, one_item}
use Rattle.least_walk.specs.declared.distances.TheConstants.{FAR}
use Rattle.gtrbac_model.specs.Graph.{Arc, Path, LeadsAlong, IsWalk, NotAfter, IsLeastWalk, item_at}

pub goal_read : (goal : List Bool) (v : ℕ) → slice_get goal v ≡ Some true → is_goal goal v ≡ true
goal_read [] v h = cc
goal_read (g ∷ gs) zero h = cc
goal_read (g ∷ gs) (suc v) h = goal_read gs v h

pub goal_get : (goal : List Bool) (v : ℕ) → is_goal goal v ≡ true → (v < length goal) × (slice_get goal v ≡ Some true)
goal_get [] v h = cc
goal_get (g ∷ gs) zero h = (omega arith, ap Some h)
goal_get (g ∷ gs) (suc v) h = let k = goal_get gs v h in let lt : v < length gs = k.0 in (omega arith, k.1)

module _ (ok : ℕ → Bool) (edges : List GraphEdge) (goal : List Bool) (ds : List ℕ) (ends : EndsIn (length goal) edges) (dist : AreDistances ok edges goal ds) where
  abbrev arcs : List (Arc ℕ)
  arcs = arcs_by ok edges

  -- the edge of an arc
  arc_edge : (m : ℕ) (arc : Arc ℕ) → item_at arcs m ≡ Some arc → (e : GraphEdge) × (item_at edges m ≡ Some e) × (arc ≡ record { from = e.from; to = e.to; is_open = ok m })
  arc_edge m arc is = let (e, at, same) = item_numbered (λ e. record { from = e.1.from; to = e.1.to; is_open = ok e.0 }) 0 edges m arc is in let k : 0 + m ≡ m = omega arith in (e, at, same ∙ ap (λ n. record { from = e.from; to = e.to; is_open = ok n }) k)

  edge_arc : (m : ℕ) (e : GraphEdge) → item_at edges m ≡ Some e → item_at arcs m ≡ Some (record { from = e.from; to = e.to; is_open = ok m })
  edge_arc m e at = let k : 0 + m ≡ m = omega arith in item_of_numbered (λ e. record { from = e.1.from; to = e.1.to; is_open = ok e.0 }) 0 edges m e at ∙ ap (λ n. Some (record { from = e.from; to = e.to; is_open = ok n })) k

  -- from a node with a walk to a goal: it is at a distance, no greater than the walk
  at_most_walk : (v : ℕ) (ms : List ℕ) (end : ℕ) → LeadsAlong (arcs) v ms end → is_goal goal end ≡ true → (slice_index ds v < FAR) × (slice_index ds v ≤ length ms)
  at_most_walk v [] end leads g =
      let (inside, is) = goal_get goal end g in
      here _ _ (ap (slice_index ds) leads) ((dist.goals end inside).1 is)
    where
      here : (a b : ℕ) → a ≡ b → b ≡ 0 → (a < FAR) × (a ≤ 0)
      here a b p q = (omega arith, omega arith)
  at_most_walk v (m ∷ ms) end (arc, is, may, from, rest) g =
      let (e, ise, same) = arc_edge m arc is in
      let next = at_most_walk arc.to ms end rest g in
      let near = dist.nearby m e ise (ap (λ a. a.is_open) (sym same) ∙ may) (same_lt _ _ (ap (slice_index ds) (ap (λ a. a.to) same)) next.0) in
      here _ _ _ _ _ (ap (slice_index ds) (sym from ∙ ap (λ a. a.from) same)) (ap (slice_index ds) (ap (λ a. a.to) same)) near.reached near.near next.1
    where
      same_lt : (a b : ℕ) → a ≡ b → a < FAR → b < FAR
      same_lt a b p q = omega arith

      here : (v f t s n : ℕ) → v ≡ f → t ≡ s → f < FAR → f ≤ s + 1 → t ≤ n → (v < FAR) × (v ≤ suc n)
      here v f t s n p q r u w = (omega arith, omega arith)

  -- the first steps are a walk to a goal, as long as the distance
  descent : (v : ℕ) (ns : List ℕ) → v < length goal → Descends ok edges ds v ns → (end : ℕ) × LeadsAlong (arcs) v ns end × (is_goal goal end ≡ true) × (length ns ≡ slice_index ds v)
  descent v [] inside z = (v, refl, goal_read goal v ((dist.goals v inside).0 z), sym z)
  descent v (n ∷ ns) inside (step, down) =
      let (end, leads, g, size) = descent step.edge.to ns (ends n step.edge step.is).to_in down in
      (end, (record { from = step.edge.from; to = step.edge.to; is_open = ok n }, edge_arc n step.edge step.is, step.may, step.leaves, leads), g, one_more _ _ _ size step.closer)
    where
      one_more : (a b c : ℕ) → a ≡ b → b + 1 ≡ c → suc a ≡ c
      one_more a b c p q = omega arith

  -- and of the walks as long none has lesser numbers
  least_numbers : (v : ℕ) (ns ms : List ℕ) (end : ℕ) → Descends ok edges ds v ns → LeadsAlong (arcs) v ms end → is_goal goal end ≡ true → length ms ≡ slice_index ds v → is_le (slice_cmp nat_cmp ns ms) ≡ true
  least_numbers v [] [] end down leads g size = refl
  least_numbers v [] (m ∷ ms) end down leads g size = refl
  least_numbers v (n ∷ ns) [] end (step, down) leads g size = absurd (none _ _ size step.closer)
    where
      none : (a b : ℕ) → 0 ≡ b → a + 1 ≡ b → ⊥
      none a b p q = omega arith
  least_numbers v (n ∷ ns) (m ∷ ms) end (step, down) (arc, is, may, from, rest) g size =
      elim (cases_lt n m) [
        | inl less ↦ ap (λ r. is_le (ordering_then r (slice_cmp nat_cmp ns ms))) (sym (nat_cmp_is n m Less less))
        | inr le ↦
            let same : n ≡ m = both n m (step.least m e ise on leaves closer) le in
            let edge : step.edge ≡ e = one_item edges m step.edge e (ap (item_at edges) (sym same) ∙ step.is) ise in
            let rec = least_numbers step.edge.to ns ms end down (subst (λ u. LeadsAlong (arcs) u ms end) (sym (ap (λ f. f.to) edge ∙ sym to)) rest) g (shorter _ _ _ size step.closer) in
            ap (λ r. is_le (ordering_then r (slice_cmp nat_cmp ns ms))) (sym (nat_cmp_is n m Equal same)) ∙ rec
      ]
    where
      e : GraphEdge
      e = (arc_edge m arc is).0

      ise : item_at edges m ≡ Some e
      ise = (arc_edge m arc is).1

      to : arc.to ≡ e.to
      to = ap (λ a. a.to) (arc_edge m arc is).2

      on : ok m ≡ true
      on = ap (λ a. a.is_open) (sym (arc_edge m arc is).2) ∙ may

      leaves : e.from ≡ v
      leaves = sym (ap (λ a. a.from) (arc_edge m arc is).2) ∙ from

      next : (slice_index ds arc.to < FAR) × (slice_index ds arc.to ≤ length ms)
      next = at_most_walk arc.to ms end rest g

      closer : slice_index ds e.to + 1 ≡ slice_index ds v
      closer = exact _ _ _ _ _ (ap (slice_index ds) to) next.1 size (dist.nearby m e ise on (same_lt _ _ (ap (slice_index ds) to) next.0)).near (ap (slice_index ds) leaves)
        where
          same_lt : (a b : ℕ) → a ≡ b → a < FAR → b < FAR
          same_lt a b p q = omega arith

          exact : (a b l d f : ℕ) → a ≡ b → a ≤ l → suc l ≡ d → f ≤ b + 1 → f ≡ d → b + 1 ≡ d
          exact a b l d f p q r u w = omega arith

      both : (a b : ℕ) → a ≤ b → b ≤ a → a ≡ b
      both a b p q = omega arith

      shorter : (l d t : ℕ) → suc l ≡ d → t + 1 ≡ d → l ≡ t
      shorter l d t p q = omega arith

  -- the nearest start and its first steps are the least walk
  pub least_of : (starts : List ℕ) (s : ℕ) (ns : List ℕ) → s < length goal → IsNearest starts ds s → Descends ok edges ds s ns → IsLeastWalk (arcs) (is_goal goal) starts (record { start = s; arcs = ns })
  least_of starts s ns inside nearest down =
      let (end, leads, g, size) = descent s ns inside down in
      record {
        place = nearest.place;
        is_walk = record { end = end; from_start = nearest.is; leads = leads; reaches = g };
        least = λ j q w. order j q w size (at_most_walk q.start q.arcs w.end w.leads w.reaches).1 (nearest.least j q.start w.from_start);
      }
    where
      fewer : (a b c d : ℕ) → a ≡ b → b < c → c ≤ d → a < d
      fewer a b c d p q r = omega arith

      as_many : (a b c d : ℕ) → a ≡ b → b ≡ c → c ≤ d → (a < d) ⊎ ((a ≡ d) × (d ≡ c))
      as_many a b c d p q r = elim (cases_lt a d) [ inl k ↦ inl k | inr k ↦ inr (omega arith, omega arith) ]

      same_place : (j : ℕ) (q : Path ℕ) (w : IsWalk (arcs) (is_goal goal) starts j q) → nearest.place ≡ j → q.start ≡ s
      same_place j q w e = one_item starts j q.start s w.from_start (ap (item_at starts) (sym e) ∙ nearest.is)

      order : (j : ℕ) (q : Path ℕ) → IsWalk (arcs) (is_goal goal) starts j q → length ns ≡ slice_index ds s → slice_index ds q.start ≤ length q.arcs
          → (slice_index ds s < slice_index ds q.start) ⊎ ((slice_index ds s ≡ slice_index ds q.start) × (nearest.place ≤ j)) → NotAfter nearest.place (record { start = s; arcs = ns }) j q
      order j q w size le (inl h) = inl (fewer _ _ _ _ size h le)
      order j q w size le (inr (e, h)) =
          elim (as_many _ _ _ _ size e le) [
            | inl k ↦ inl k
            | inr k ↦ inr (
              k.0,
              elim (cases_lt nearest.place j) [
                | inl b ↦ inl b
                | inr b ↦
                    let p : nearest.place ≡ j = both _ _ h b in
                    let t = same_place j q w p in
                    inr (p, least_numbers s ns q.arcs w.end down (subst (λ u. LeadsAlong (arcs) u q.arcs w.end) t w.leads) w.reaches (k.1 ∙ ap (slice_index ds) t))
              ],
            )
          ]
        where
          both : (a b : ℕ) → a ≤ b → b ≤ a → a ≡ b
          both a b p q = omega arith

  -- where no start is at a distance there is no walk
  pub no_walk : (starts : List ℕ) → AllFar starts ds → HasNoWalk (arcs) (is_goal goal) starts
  no_walk starts all place p w = against _ (at_most_walk p.start p.arcs w.end w.leads w.reaches).0 (all place p.start w.from_start)
    where
      against : (a : ℕ) → a < FAR → FAR ≤ a → ⊥
      against a p q = omega arith

-- where each edge is open the arcs are those of the graph
pub every_arc : (k : ℕ) (edges : List GraphEdge) → map (λ e. record { from = e.1.from; to = e.1.to; is_open = every e.0 }) (enumerate_from k edges) ≡ arcs_of edges
every_arc k [] = refl
every_arc k (e ∷ edges) = ap (λ as'. arc_of e ∷ as') (every_arc (k + 1) edges)
