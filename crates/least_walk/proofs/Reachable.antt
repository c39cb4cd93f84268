-- Nodes at a distance are those from which a walk leads to a goal.
use Rattle.std.proofs.Common.{◌≡◌, ℕ, zero, suc, ◌+◌, ◌<◌, ◌≤◌, Bool, true, not, List, [], ◌∷◌, length, map, slice_index, refl, sym, ◌∙◌, ap, subst, arith}
use Rattle.std.proofs.lemmas.Bool.{ne_eqb, eq-eqb, false≢true}
use Rattle.least_walk.specs.declared.graphs.GraphEdge.{GraphEdge}
use Rattle.least_walk.specs.Net.{EndsIn, arc_of, arcs_of, every}
use Rattle.least_walk.specs.Distances.{is_far, HasStep, AreDistances}
use Rattle.least_walk.specs.Walks.{is_goal, IsReach}
use Rattle.least_walk.proofs.Items.{item_of_map}
use Rattle.least_walk.proofs.Descending.{goal_read, goal_get}
use Rattle.least_walk.specs.declared.distances.TheConstants.{FAR}
use Rattle.gtrbac_model.specs.Graph.{LeadsAlong}

abbrev pub marks : List ℕ → List Bool
marks ds = map (λ d. not (is_far d)) ds

marked_far : (ds : List ℕ) (v : ℕ) → is_goal (marks ds) v ≡ true → (v < length ds) × (slice_index ds v ≡ FAR → ⊥)
marked_far [] v h = cc
marked_far (d ∷ ds) zero h = (omega arith, λ q. false≢true (sym (ap not (eq-eqb d FAR q)) ∙ h))
marked_far (d ∷ ds) (suc v) h = let k = marked_far ds v h in let lt : v < length ds = k.0 in (omega arith, k.1)

far_marked : (ds : List ℕ) (v : ℕ) → v < length ds → (slice_index ds v ≡ FAR → ⊥) → is_goal (marks ds) v ≡ true
far_marked [] v h n = absurd (omega arith)
far_marked (d ∷ ds) zero h n = ap not (ne_eqb d FAR n)
far_marked (d ∷ ds) (suc v) h n = far_marked ds v (omega arith) n

module _ (edges : List GraphEdge) (goal : List Bool) (ds : List ℕ) (ends : EndsIn (length goal) edges) (dist : AreDistances every edges goal ds) where
  walk_at : (k v : ℕ) → slice_index ds v ≡ k → k < FAR → v < length ds → (ms : List ℕ) × (end : ℕ) × LeadsAlong (arcs_of edges) v ms end × (is_goal goal end ≡ true)
  walk_at zero v q lt inside = ([], v, refl, goal_read goal v ((dist.goals v (subst (λ n. v < n) dist.size inside)).0 q))
  walk_at (suc k) v q lt inside =
      let s = dist.steps v (some _ q) (below _ q lt) in
      let c : slice_index ds s.edge.to ≡ k = closer _ _ s.closer q in
      let (ms, end, leads, g) = walk_at k s.edge.to c (omega arith) (to_inside s c) in
      (s.number ∷ ms, end, (arc_of s.edge, item_of_map arc_of edges s.number s.edge s.is, refl, s.leaves, leads), g)
    where
      some : (a : ℕ) → a ≡ suc k → 0 < a
      some a p = omega arith

      below : (a : ℕ) → a ≡ suc k → suc k < FAR → a < FAR
      below a p h = omega arith

      closer : (a b : ℕ) → a + 1 ≡ b → b ≡ suc k → a ≡ k
      closer a b p h = omega arith

      to_inside : (s : HasStep every edges ds v) → slice_index ds s.edge.to ≡ k → s.edge.to < length ds
      to_inside s c = subst (λ n. s.edge.to < n) (sym dist.size) (ends s.number s.edge s.is).to_in

  pub are_reached : IsReach edges (is_goal goal) (marks ds)
  are_reached =
      record {
        goals = λ v h g.
            let (inside, is) = goal_get goal v g in
            far_marked ds v (subst (λ n. v < n) (sym dist.size) inside) (λ q. zero_far _ ((dist.goals v inside).1 is) q);
        closed = λ n e is h.
            let (inside, near) = marked_far ds e.to h in
            let k = dist.nearby n e is refl (below _ (dist.bound e.to) near) in
            far_marked ds e.from (subst (λ n. e.from < n) (sym dist.size) (ends n e is).from_in) (λ q. less_far _ k.reached q);
        walks = λ v h.
            let (inside, near) = marked_far ds v h in
            walk_at (slice_index ds v) v refl (below _ (dist.bound v) near) inside;
      }
    where
      zero_far : (a : ℕ) → a ≡ 0 → a ≡ FAR → ⊥
      zero_far a p q = omega arith

      below : (a : ℕ) → a ≤ FAR → (a ≡ FAR → ⊥) → a < FAR
      below a p q = omega arith

      less_far : (a : ℕ) → a < FAR → a ≡ FAR → ⊥
      less_far a p q = omega arith
