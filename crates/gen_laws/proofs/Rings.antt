-- The edges of a made policy form no ring: each leads one role further.
use Rattle.std.proofs.Common.{◌≡◌, ℕ, zero, suc, ◌+◌, List, [], ◌∷◌, map, length, Some, refl, sym, ap, ◌∙◌, arith}
use Rattle.std.specs.List.{range_with_len}
use Rattle.gt_base.specs.declared.events.RoleId.{RoleId}
use Rattle.gtrbac_model.specs.Graph.{Arc, item_at, LeadsAlong}
use Rattle.gtrbac_model.specs.Hierarchy.{all_arcs}
use Rattle.gtrbac_model.specs.WholePolicy.{HasNoRing}
use Rattle.gen_laws.specs.Made.{edge_down}

some_is : {A : Type 0} (a b : A) → Some a ≡ Some b → a ≡ b
some_is a b e = cc

further : (a n i : ℕ) (e : Arc RoleId) → item_at (all_arcs (map edge_down (range_with_len a n))) i ≡ Some e → e.to.0 ≡ e.from.0 + 1
further a zero i e is = cc
further a (suc n) zero e is = let same = some_is _ e is in ap (λ (z : Arc RoleId). z.to.0) (sym same) ∙ ap (λ (z : Arc RoleId). z.from.0 + 1) same
further a (suc n) (suc i) e is = further (a + 1) n i e is

module _ (a n : ℕ) where
  goes_on : (r : RoleId) (walk : List ℕ) (q : RoleId) → LeadsAlong (all_arcs (map edge_down (range_with_len a n))) r walk q → q.0 ≡ r.0 + length walk
  goes_on r [] q e = let same : r.0 ≡ q.0 = ap (λ (z : RoleId). z.0) e in omega (arith, same)
  goes_on r (i ∷ walk) q w =
      let on : w.0.to.0 ≡ w.0.from.0 + 1 = further a n i w.0 w.1 in
      let from : w.0.from.0 ≡ r.0 = ap (λ (z : RoleId). z.0) w.3 in
      let rest : q.0 ≡ w.0.to.0 + length walk = goes_on w.0.to walk q w.4 in
      omega (arith, on, from, rest)

  pub no_ring : HasNoRing (map edge_down (range_with_len a n))
  no_ring r [] w = refl
  no_ring r (i ∷ walk) w = let long : r.0 ≡ r.0 + length (i ∷ walk) = goes_on r (i ∷ walk) r w in absurd (omega (arith, long))
