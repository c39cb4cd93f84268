-- The least walk over some edges, whose own edges are among fewer, is the least walk over these.
use Rattle.std.proofs.Common.{◌≡◌, ℕ, Bool, true, List, [], ◌∷◌, filter, Option, Some, None, MatchOption, refl, sym, ◌∙◌, ap, subst}
use Rattle.gt_base.specs.declared.events.RoleId.{RoleId}
use Rattle.gt_base.specs.declared.policies.HierEdge.{HierEdge}
use Rattle.gt_base.specs.Held.{RoleWalk}
use Rattle.gtrbac_model.specs.Graph.{Path, LeadsAlong, IsWalk, IsLeastWalk, least_walk, item_at}
use Rattle.gtrbac_model.specs.Same.{same_role}
use Rattle.gtrbac_model.specs.Hierarchy.{all_roles, role_arcs, least_role_walk}
use Rattle.walk_laws.specs.Laws.{HasNoWalk}
use Rattle.walk_laws.proofs.Computing.{least_walk_is}
use Rattle.walk_laws.proofs.Roles.{tells_apart}
use Rattle.hybrid_hierarchy.proofs.Seeking.{open_arc}
use Rattle.hybrid_hierarchy.proofs.Leading.{arc_edge}
use Rattle.hybrid_hierarchy.proofs.Walking.{walk_told}

abbrev role_walk : Option (Path RoleId) → Option RoleWalk
role_walk None = None
role_walk (Some p) = Some (record { start = p.start; edges = p.arcs })

-- each of these is the number of an edge that passes
abbrev pub AllPass : (ℕ → HierEdge → Bool) → List HierEdge → List ℕ → Type 0
AllPass ok es [] = Unit {0}
AllPass ok es (n ∷ ns) = ((e : HierEdge) × (item_at es n ≡ Some e) × (ok n e ≡ true)) × AllPass ok es ns

module _ (es : List HierEdge) (any ok : ℕ → HierEdge → Bool) where
  -- the same walk over edges by another test, where each of its edges passes
  over_others : (a : RoleId) (ns : List ℕ) (b : RoleId) → LeadsAlong (role_arcs any es) a ns b → AllPass ok es ns → LeadsAlong (role_arcs ok es) a ns b
  over_others a [] b leads all = leads
  over_others a (n ∷ ns) b (arc, is, may, from, rest) ((e, at, on), all) =
      let (f, atf, same) = arc_edge any es n arc is in
      let one : f ≡ e = one_edge f e atf at in (
        record { from = e.senior; to = e.junior; is_open = true },
        open_arc ok es n e at on,
        refl,
        ap (λ g. g.senior) (sym one) ∙ ap (λ x. x.from) (sym same) ∙ from,
        over_others e.junior ns b (subst (λ r. LeadsAlong (role_arcs any es) r ns b) (ap (λ x. x.to) same ∙ ap (λ g. g.junior) one) rest) all,
      )
    where
      one_edge : (f e : HierEdge) → item_at es n ≡ Some f → item_at es n ≡ Some e → f ≡ e
      one_edge f e p q = let h : Some f ≡ Some e = sym p ∙ q in cc

module _ (es : List HierEdge) (any ok : ℕ → HierEdge → Bool) (fewer : (n : ℕ) (e : HierEdge) → ok n e ≡ true → any n e ≡ true) where
  -- the edges of a walk pass
  each : (a : RoleId) (ns : List ℕ) (b : RoleId) → LeadsAlong (role_arcs ok es) a ns b → AllPass any es ns
  each a [] b leads = tt
  each a (n ∷ ns) b (arc, is, may, from, rest) =
      let (e, at, same) = arc_edge ok es n arc is in
      ((e, at, fewer n e (ap (λ x. x.is_open) (sym same) ∙ may)), each arc.to ns b rest)

  module _ (goal : RoleId → Bool) (starts : List RoleId) where
    wider : (j : ℕ) (q : Path RoleId) → IsWalk (role_arcs ok es) goal starts j q → IsWalk (role_arcs any es) goal starts j q
    wider j q w = record {
      end = w.end;
      from_start = w.from_start;
      leads = over_others es ok any q.start q.arcs w.end w.leads (each q.start q.arcs w.end w.leads);
      reaches = w.reaches;
    }

    narrower : (p : Path RoleId) → IsLeastWalk (role_arcs any es) goal starts p → AllPass ok es p.arcs → IsLeastWalk (role_arcs ok es) goal starts p
    narrower p least all = record {
      place = least.place;
      is_walk = record {
        end = least.is_walk.end;
        from_start = least.is_walk.from_start;
        leads = over_others es any ok p.start p.arcs least.is_walk.end least.is_walk.leads all;
        reaches = least.is_walk.reaches;
      };
      least = λ j q w. least.least j q (wider j q w);
    }

    least_told : (w : RoleWalk) (o : Option (Path RoleId)) → MatchOption o (HasNoWalk (role_arcs any es) goal starts) (IsLeastWalk (role_arcs any es) goal starts) → role_walk o ≡ Some w
        → IsLeastWalk (role_arcs any es) goal starts (record { start = w.start; arcs = w.edges })
    least_told w None told is = cc
    least_told w (Some p) told is =
        let same : record { start = p.start; edges = p.arcs } ≡ w = cc in
        subst (λ (v : RoleWalk). IsLeastWalk (role_arcs any es) goal starts (record { start = v.start; arcs = v.edges })) same told

    none_told : (o : Option (Path RoleId)) → MatchOption o (HasNoWalk (role_arcs any es) goal starts) (IsLeastWalk (role_arcs any es) goal starts) → role_walk o ≡ None → HasNoWalk (role_arcs any es) goal starts
    none_told None told is = told
    none_told (Some p) told is = cc

    walk_over : (w : RoleWalk) → role_walk (least_walk same_role (role_arcs any es) goal starts) ≡ Some w → AllPass ok es w.edges → role_walk (least_walk same_role (role_arcs ok es) goal starts) ≡ Some w
    walk_over w is all =
        sym (walk_told es ok goal starts (Some w) (narrower (record { start = w.start; arcs = w.edges }) (least_told w _ (least_walk_is same_role tells_apart (role_arcs any es) goal starts) is) all))

    none_over : role_walk (least_walk same_role (role_arcs any es) goal starts) ≡ None → role_walk (least_walk same_role (role_arcs ok es) goal starts) ≡ None
    none_over is =
        let none = none_told _ (least_walk_is same_role tells_apart (role_arcs any es) goal starts) is in
        sym (walk_told es ok goal starts None (λ j q w. none j q (wider j q w)))

  -- the least walk over the wider test, where its edges pass the narrower one
  pub walk_of_fewer : (from goal : RoleId → Bool) (w : RoleWalk) → least_role_walk es any from goal ≡ Some w → AllPass ok es w.edges → least_role_walk es ok from goal ≡ Some w
  walk_of_fewer from goal w = over all_roles
    where
      over : (rs : List RoleId) → role_walk (least_walk same_role (role_arcs any es) goal (filter from rs)) ≡ Some w → AllPass ok es w.edges → role_walk (least_walk same_role (role_arcs ok es) goal (filter from rs)) ≡ Some w
      over rs = walk_over goal (filter from rs) w

  -- no walk over the wider test
  pub none_of_fewer : (from goal : RoleId → Bool) → least_role_walk es any from goal ≡ None → least_role_walk es ok from goal ≡ None
  none_of_fewer from goal = over all_roles
    where
      over : (rs : List RoleId) → role_walk (least_walk same_role (role_arcs any es) goal (filter from rs)) ≡ None → role_walk (least_walk same_role (role_arcs ok es) goal (filter from rs)) ≡ None
      over rs = none_over goal (filter from rs)
