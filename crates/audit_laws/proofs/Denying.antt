-- A decision that is no permit has its reason, and no usable walk leads to the permission.
use Rattle.std.proofs.Common.{◌≡◌, ℕ, ◌<◌, Bool, true, false, List, [], ◌∷◌, ◌++◌, filter, inl, inr, Option, Some, None, refl, sym, ◌∙◌, ap, subst, if◌then◌else◌}
use Rattle.gt_base.specs.declared.events.RoleId.{RoleId}
use Rattle.gt_base.specs.declared.events.PermId.{PermId}
use Rattle.gt_base.specs.declared.events.Fluent.TheVariants.{Granted}
use Rattle.gt_base.specs.declared.policies.HierEdge.{HierEdge}
use Rattle.gt_base.specs.declared.requests.Decision.{Decision}
use Rattle.gt_base.specs.declared.requests.Decision.TheVariants.{Permit, NoGrant, Shut}
use Rattle.gt_base.specs.declared.limits.TheConstants.{MAX_ROLES}
use Rattle.gt_base.specs.Held.{RoleWalk}
use Rattle.gtrbac_model.specs.Conflict.{Status}
use Rattle.gtrbac_model.specs.Graph.{item_at, LeadsAlong}
use Rattle.gtrbac_model.specs.Hierarchy.{usable, role_arcs, all_roles, permission_walk, permission_walk_of_any}
use Rattle.gtrbac_model.specs.Same.{same_role, lists}
use Rattle.gtrbac_model.specs.Decision.{decide}
use Rattle.gtrbac_model.proofs.Elements.{Elem}
use Rattle.history_laws.proofs.Members.{elem_of, is_in, of_filter}
use Rattle.audit_laws.specs.Denials.{IsEdge, NoneLends, IsRightDenial, is_permit}
use Rattle.audit_laws.proofs.Walking.{arc_edge, edge_arc, listed, of_listed, found, not_found}

-- the words of the decision, as the model has them
abbrev is_usable_edge : Status → List HierEdge → ℕ → Bool
is_usable_edge s edges n = elim (item_at edges n) [ Some e ↦ usable s true n e | None ↦ false ]

abbrev first_unusable : Status → List HierEdge → List ℕ → ℕ
first_unusable s edges [] = 0
first_unusable s edges (n ∷ ns) = if is_usable_edge s edges n then first_unusable s edges ns else n

abbrev inherits : ℕ → HierEdge → Bool
inherits n e = e.inherits

-- the numbers before the one that is shut lend now
record Cut (edges : List HierEdge) (s : Status) (ns : List ℕ) (n : ℕ) : Type 0 where
  before : List ℕ
  after : List ℕ
  is : ns ≡ before ++ n ∷ after
  lend : (k : ℕ) → Elem before k → IsEdge edges s true k
  shut : IsEdge edges s false n

module _ (edges : List HierEdge) (s : Status) where
  -- a walk that is not of usable edges alone is cut at the first that is not
  cut : (a : RoleId) (ns : List ℕ) (b : RoleId) → LeadsAlong (role_arcs inherits edges) a ns b → (LeadsAlong (role_arcs (usable s true) edges) a ns b → ⊥) → Cut edges s ns (first_unusable s edges ns)
  cut a [] b leads none = absurd (none leads)
  cut a (n ∷ ns) b (arc, is, may, from, rest) none =
      let (e, at, same) = arc_edge inherits edges n arc is in
      by e at same (usable s true n e) refl (λ r leads no. cut r ns b leads no)
    where
      ends : (e : HierEdge) → arc ≡ record { from = e.senior; to = e.junior; is_open = e.inherits } → LeadsAlong (role_arcs inherits edges) e.junior ns b
      ends e same = subst (λ r. LeadsAlong (role_arcs inherits edges) r ns b) (ap (λ x. x.to) same) rest

      by : (e : HierEdge) → item_at edges n ≡ Some e → arc ≡ record { from = e.senior; to = e.junior; is_open = e.inherits } → (c : Bool) → usable s true n e ≡ c
          → ((r : RoleId) → LeadsAlong (role_arcs inherits edges) r ns b → (LeadsAlong (role_arcs (usable s true) edges) r ns b → ⊥) → Cut edges s ns (first_unusable s edges ns))
          → Cut edges s (n ∷ ns) (first_unusable s edges (n ∷ ns))
      by e at same true on more =
          let first : is_usable_edge s edges n ≡ true = ap (λ o. elim o [ Some e ↦ usable s true n e | None ↦ false ]) at ∙ on in
          let later : Cut edges s ns (first_unusable s edges ns) = more e.junior (ends e same) (λ leads. none (record { from = e.senior; to = e.junior; is_open = usable s true n e }, edge_arc (usable s true) edges n e at, on, ap (λ x. x.from) (sym same) ∙ from, leads)) in
          let here : Cut edges s (n ∷ ns) (first_unusable s edges ns) =
          record {
            before = n ∷ later.before;
            after = later.after;
            is = ap (λ ks. n ∷ ks) later.is;
            lend = λ k there. elim there [ inl q ↦ record { edge = e; is = ap (item_at edges) q ∙ at; lends_now = ap (λ j. usable s true j e) q ∙ on } | inr q ↦ later.lend k q ];
            shut = later.shut;
          } in
          subst (λ j. Cut edges s (n ∷ ns) j) (λ i. if sym first i then first_unusable s edges ns else n) here
      by e at same false off more =
          let first : is_usable_edge s edges n ≡ false = ap (λ o. elim o [ Some e ↦ usable s true n e | None ↦ false ]) at ∙ off in
          let here : Cut edges s (n ∷ ns) n = record { before = []; after = ns; is = refl; lend = λ k there. elim there [ ]; shut = record { edge = e; is = at; lends_now = off } } in
          subst (λ j. Cut edges s (n ∷ ns) j) (λ i. if sym first i then first_unusable s edges ns else n) here

  module _ (perm : PermId) where
    abbrev Low : List RoleId → Type 0
    Low active = (r : RoleId) → Elem active r → r.0 < MAX_ROLES

    none_lends : (active : List RoleId) → Low active → permission_walk edges s active perm ≡ None → NoneLends edges s active perm (usable s true)
    none_lends active low none walk there lends =
        let it : Elem active walk.start = elem_of active walk.start there in
        not_found edges (usable s true) (lists same_role active) (λ r. s (Granted perm r)) none walk.start (low walk.start it) (listed active walk.start it) walk.edges lends.end lends.leads lends.granted

    none_inherits : (active : List RoleId) → Low active → permission_walk_of_any edges s active perm ≡ None → NoneLends edges s active perm inherits
    none_inherits active low none walk there lends =
        let it : Elem active walk.start = elem_of active walk.start there in
        not_found edges inherits (lists same_role active) (λ r. s (Granted perm r)) none walk.start (low walk.start it) (listed active walk.start it) walk.edges lends.end lends.leads lends.granted

    -- by the walk over usable edges, and by the one over any
    by_walks : (active : List RoleId) → Low active → (o o' : Option RoleWalk) → permission_walk edges s active perm ≡ o → permission_walk_of_any edges s active perm ≡ o'
        → (d : Decision) → is_permit d ≡ false
        → d ≡ (elim o [ Some w ↦ Permit w | None ↦ elim o' [ None ↦ NoGrant | Some w ↦ Shut (first_unusable s edges w.edges) ] ]) → IsRightDenial edges s active perm d
    by_walks active low (Some w) o' e e' d not_permit is = let h : is_permit d ≡ true = ap is_permit is in cc
    by_walks active low None None e e' d not_permit is =
        subst (λ d. IsRightDenial edges s active perm d) (sym is) (record { reason = none_inherits active low e'; none = none_lends active low e })
    by_walks active low None (Some w) e e' d not_permit is =
        let none = none_lends active low e in
        let least = found edges inherits (lists same_role active) (λ r. s (Granted perm r)) w e' in
        let (was, passes) = of_filter (lists same_role active) all_roles w.start (elem_of (filter (lists same_role active) all_roles) w.start (least.place, least.is_walk.from_start)) in
        let c = cut w.start w.edges least.is_walk.end least.is_walk.leads (λ leads. none w (is_in active w.start (of_listed active w.start passes)) (record { end = least.is_walk.end; leads = leads; granted = least.is_walk.reaches })) in
        subst (λ d. IsRightDenial edges s active perm d) (sym is)
        (record {
          reason = record { walk = w; least = least; before = c.before; after = c.after; is = c.is; lend = λ k there. c.lend k (elem_of c.before k there); shut = c.shut };
          none = none;
        })

    pub right_denial : (active : List RoleId) → Low active → (d : Decision) → is_permit d ≡ false → d ≡ decide edges s active perm → IsRightDenial edges s active perm d
    right_denial [] low d not_permit is = subst (λ d. IsRightDenial edges s [] perm d) (sym is) (record { reason = refl; none = λ walk there lends. elim (elem_of [] walk.start there) [ ] })
    right_denial (r ∷ rs) low d not_permit is = by_walks (r ∷ rs) low (permission_walk edges s (r ∷ rs) perm) (permission_walk_of_any edges s (r ∷ rs) perm) refl refl d not_permit is
