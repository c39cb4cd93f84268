-- A walk that is found leads along over the edges of the policy, from a role of it.
use Rattle.std.proofs.Common.{◌≡◌, ℕ, zero, suc, ◌+◌, ◌<◌, Bool, true, false, cond, List, [], ◌∷◌, length, filter, Option, Some, None, MatchOption, refl, sym, ◌∙◌, ap, subst, arith}
use Rattle.std.specs.Prelude.{slice_get, nat_lt}
use Rattle.std.specs.List.{list_all, enumerate_from}
use Rattle.std.proofs.lemmas.Bool.{lt-ltb}
use Rattle.gt_base.specs.declared.events.RoleId.{RoleId}
use Rattle.gt_base.specs.declared.policies.HierEdge.{HierEdge}
use Rattle.gt_base.specs.Held.{RoleWalk}
use Rattle.gtrbac_model.specs.Policy.{Policy}
use Rattle.gtrbac_model.specs.Graph.{Arc, Path, item_at, LeadsAlong, least_walk, IsLeastWalk}
use Rattle.gtrbac_model.specs.Same.{same_role}
use Rattle.gtrbac_model.specs.Hierarchy.{role_arcs, all_roles, least_role_walk}
use Rattle.walk_laws.specs.Laws.{HasNoWalk}
use Rattle.walk_laws.proofs.Computing.{least_walk_is}
use Rattle.walk_laws.proofs.Roles.{tells_apart}
use Rattle.least_walk.proofs.Items.{item_map, item_get, item_within}
use Rattle.policy_lines.proofs.Truths.{and_true, some_is, none_some}
use Rattle.request_text.specs.Named.{has_edge, has_walk}
use Rattle.request_text.specs.Kinds.{Follows}

-- items with their numbers

record Numbered (es : List HierEdge) (k n : ℕ) (x : ℕ × HierEdge) : Type 0 where
  edge : item_at es n ≡ Some x.1
  number : x.0 ≡ k + n

numbered : (k : ℕ) (es : List HierEdge) (n : ℕ) (x : ℕ × HierEdge) → item_at (enumerate_from k es) n ≡ Some x → Numbered es k n x
numbered k [] n x h = absurd (none_some h)
numbered k (e ∷ es) zero x h =
    subst (Numbered (e ∷ es) k zero) (some_is h) (record { edge = refl; number = omega arith })
numbered k (e ∷ es) (suc n) x h = let rest = numbered (k + 1) es n x h in record { edge = rest.edge; number = omega (arith, rest.number) }

record EdgeOf (edges : List HierEdge) (n : ℕ) (a : Arc RoleId) : Type 0 where
  edge : HierEdge
  there : slice_get edges n ≡ Some edge
  from : edge.senior ≡ a.from
  to : edge.junior ≡ a.to

edge_of : (edges : List HierEdge) (ok : ℕ → HierEdge → Bool) (n : ℕ) (a : Arc RoleId) → item_at (role_arcs ok edges) n ≡ Some a → EdgeOf edges n a
edge_of edges ok n a h =
    let (x, at, is) = item_map (λ e. record { from = e.1.senior; to = e.1.junior; is_open = ok e.0 e.1 }) (enumerate_from 0 edges) n a h in
    record {
      edge = x.1;
      there = sym (item_get edges n) ∙ (numbered 0 edges n x at).edge;
      from = sym (ap (λ (a : Arc RoleId). a.from) is);
      to = sym (ap (λ (a : Arc RoleId). a.to) is);
    }

-- the first roles that pass

passes : (test : RoleId → Bool) (rs : List RoleId) (i : ℕ) (r : RoleId) → item_at (filter test rs) i ≡ Some r → test r ≡ true
passes test [] i r is = absurd (none_some is)
passes test (x ∷ rs) i r is = by (test x) refl (passes test rs) i is
  where
    by : (b : Bool) → test x ≡ b → ((i : ℕ) (r : RoleId) → item_at (filter test rs) i ≡ Some r → test r ≡ true) → (i : ℕ) → item_at (cond b (x ∷ filter test rs) (filter test rs)) i ≡ Some r → test r ≡ true
    by true t again zero is = subst (λ y. test y ≡ true) (some_is is) t
    by true t again (suc i) is = again i r is
    by false t again i is = again i r is

pub record Leads (p : Policy) (w : RoleWalk) : Type 0 where
  pub named : has_walk p w ≡ true
  pub follows : Follows p w.start w.edges

abbrev role_walk : Option (Path RoleId) → Option RoleWalk
role_walk None = None
role_walk (Some p) = Some (record { start = p.start; edges = p.arcs })

module _ (p : Policy) (ok : ℕ → HierEdge → Bool) where
  follows : (a : RoleId) (ns : List ℕ) (b : RoleId) → LeadsAlong (role_arcs ok p.edges) a ns b → Follows p a ns × (list_all (has_edge p) ns ≡ true)
  follows a [] b leads = (tt, refl)
  follows a (n ∷ ns) b (arc, at, opened, from, more) =
      let e = edge_of p.edges ok n arc at in
      let rest = follows arc.to ns b more in
      let within : n < length p.edges = item_within p.edges n e.edge (item_get p.edges n ∙ e.there) in
      ((e.edge, e.there, e.from ∙ from, subst (λ r. Follows p r ns) (sym e.to) rest.0), and_true (has_edge p n) (list_all (has_edge p) ns) (lt-ltb n (length p.edges) within) rest.1)

  module _ (from goal : RoleId → Bool) (low : (r : RoleId) → from r ≡ true → r.0 < p.roles) where
    leading : (rs : List RoleId) (w : RoleWalk) → role_walk (least_walk same_role (role_arcs ok p.edges) goal (filter from rs)) ≡ Some w → Leads p w
    leading rs w e = by (least_walk same_role (role_arcs ok p.edges) goal (filter from rs)) (least_walk_is same_role tells_apart (role_arcs ok p.edges) goal (filter from rs)) e
      where
        by : (o : Option (Path RoleId)) → MatchOption o (HasNoWalk (role_arcs ok p.edges) goal (filter from rs)) (IsLeastWalk (role_arcs ok p.edges) goal (filter from rs)) → role_walk o ≡ Some w → Leads p w
        by None h e = absurd (none_some e)
        by (Some path) h e =
            let f = follows path.start path.arcs h.is_walk.end h.is_walk.leads in
            let start = low path.start (passes from rs h.place path.start h.is_walk.from_start) in
            subst (Leads p) (some_is e)
            (record { named = and_true (nat_lt path.start.0 p.roles) (list_all (has_edge p) path.arcs) (lt-ltb path.start.0 p.roles start) f.1; follows = f.0 })

    pub found_leads : (w : RoleWalk) → least_role_walk p.edges ok from goal ≡ Some w → Leads p w
    found_leads w e = leading all_roles w e

-- a walk without edges is one over whatever edges
module _ (edges : List HierEdge) (ok any : ℕ → HierEdge → Bool) (from goal : RoleId → Bool) where
  still : (rs : List RoleId) (w : RoleWalk) → role_walk (least_walk same_role (role_arcs any edges) goal (filter from rs)) ≡ Some w → w.edges ≡ []
      → role_walk (least_walk same_role (role_arcs ok edges) goal (filter from rs)) ≡ None → ⊥
  still rs w e none shut =
      by (least_walk same_role (role_arcs any edges) goal (filter from rs)) (least_walk_is same_role tells_apart (role_arcs any edges) goal (filter from rs))
      (least_walk same_role (role_arcs ok edges) goal (filter from rs)) (least_walk_is same_role tells_apart (role_arcs ok edges) goal (filter from rs)) e shut
    where
      by : (o : Option (Path RoleId)) → MatchOption o (HasNoWalk (role_arcs any edges) goal (filter from rs)) (IsLeastWalk (role_arcs any edges) goal (filter from rs))
          → (q : Option (Path RoleId)) → MatchOption q (HasNoWalk (role_arcs ok edges) goal (filter from rs)) (IsLeastWalk (role_arcs ok edges) goal (filter from rs))
          → role_walk o ≡ Some w → role_walk q ≡ None → ⊥
      by None h q k e shut = none_some e
      by (Some path) h (Some other) k e shut = none_some (sym shut)
      by (Some path) h None k e shut =
          let arcs : path.arcs ≡ [] = ap (λ (w : RoleWalk). w.edges) (some_is e) ∙ none in
          let ends : path.start ≡ h.is_walk.end = subst (λ ns. LeadsAlong (role_arcs any edges) path.start ns h.is_walk.end) arcs h.is_walk.leads in
          k h.place (record { start = path.start; arcs = [] }) (record { end = h.is_walk.end; from_start = h.is_walk.from_start; leads = ends; reaches = h.is_walk.reaches })

  pub none_still : (w : RoleWalk) → least_role_walk edges any from goal ≡ Some w → w.edges ≡ [] → least_role_walk edges ok from goal ≡ None → ⊥
  none_still w e none shut = still all_roles w e none shut
