-- The walks of the definitions as relations: what is found, and that nothing is where none is.
use Rattle.std.proofs.Common.{◌≡◌, ℕ, zero, suc, ◌+◌, ◌<◌, ◌≤◌, Bool, true, false, cond, inl, inr, List, [], ◌∷◌, map, filter, Option, Some, None, MatchOption, refl, sym, ◌∙◌, ap, subst, arith}
use Rattle.std.proofs.lemmas.Bool.{cases_lt}
use Rattle.std.specs.List.{range_with_len, enumerate_from}
use Rattle.gt_base.specs.declared.events.RoleId.{RoleId}
use Rattle.gt_base.specs.declared.policies.HierEdge.{HierEdge}
use Rattle.gt_base.specs.declared.limits.TheConstants.{MAX_ROLES}
use Rattle.gt_base.specs.Held.{RoleWalk}
use Rattle.gtrbac_model.specs.Graph.{Arc, Path, item_at, least_walk, LeadsAlong, IsLeastWalk}
use Rattle.gtrbac_model.specs.Hierarchy.{role_arcs, all_roles, least_role_walk}
use Rattle.gtrbac_model.specs.Same.{same_role, lists}
use Rattle.gtrbac_model.proofs.Elements.{Elem, any_elim, any_intro}
use Rattle.walk_laws.specs.Laws.{HasNoWalk}
use Rattle.walk_laws.proofs.Computing.{least_walk_is}
use Rattle.walk_laws.proofs.LeastCycle.{item_map, item_of_map}
use Rattle.walk_laws.proofs.Roles.{tells_apart, one_role, is_same_role, same_role_of}
use Rattle.history_laws.proofs.Members.{clash, of_map, is_in}

-- arcs and their edges

abbrev arc_of : (ℕ → HierEdge → Bool) → ℕ × HierEdge → Arc RoleId
arc_of ok e = record { from = e.1.senior; to = e.1.junior; is_open = ok e.0 e.1 }

counted : (k : ℕ) (es : List HierEdge) (n : ℕ) (x : ℕ × HierEdge) → item_at (enumerate_from k es) n ≡ Some x → (item_at es n ≡ Some x.1) × (x.0 ≡ k + n)
counted k [] n x is = cc
counted k (e ∷ es) zero x is = let same : (k, e) ≡ x = cc in (ap (λ y. Some y.1) same, sym (ap (λ y. y.0) same) ∙ omega arith)
counted k (e ∷ es) (suc n) x is = let (at, number) = counted (k + 1) es n x is in (at, number ∙ omega arith)

count : (k : ℕ) (es : List HierEdge) (n : ℕ) (e : HierEdge) → item_at es n ≡ Some e → item_at (enumerate_from k es) n ≡ Some (k + n, e)
count k [] n e is = cc
count k (f ∷ es) zero e is = let same : f ≡ e = cc in λ i. Some (there i, same i)
  where
    there : k ≡ k + 0
    there = omega arith
count k (f ∷ es) (suc n) e is = count (k + 1) es n e is ∙ ap (λ j. Some (j, e)) (omega arith)

-- an arc is of its edge
pub arc_edge : (ok : ℕ → HierEdge → Bool) (es : List HierEdge) (n : ℕ) (arc : Arc RoleId) → item_at (role_arcs ok es) n ≡ Some arc
    → (e : HierEdge) × (item_at es n ≡ Some e) × (arc ≡ arc_of ok (n, e))
arc_edge ok es n arc is =
    let (x, at, same) = item_map (arc_of ok) (enumerate_from 0 es) n arc is in
    let (edge, number) = counted 0 es n x at in
    (x.1, edge, same ∙ ap (λ j. arc_of ok (j, x.1)) (number ∙ omega arith))

pub edge_arc : (ok : ℕ → HierEdge → Bool) (es : List HierEdge) (n : ℕ) (e : HierEdge) → item_at es n ≡ Some e → item_at (role_arcs ok es) n ≡ Some (arc_of ok (n, e))
edge_arc ok es n e is = item_of_map (arc_of ok) (enumerate_from 0 es) n (n, e) (count 0 es n e is ∙ ap (λ j. Some (j, e)) (omega arith))

-- each role of a policy is among all

in_range : (a n k : ℕ) → a ≤ k → k < a + n → Elem (range_with_len a n) k
in_range a zero k low high = absurd (omega (arith, low, high))
in_range a (suc n) k low high =
    elim (cases_lt a k) [
      | inl later ↦ inr (in_range (a + 1) n k (omega (arith, later)) (omega (arith, high)))
      | inr no_later ↦ inl (omega (arith, low, no_later))
    ]

all_numbers : map (λ (r : RoleId). r.0) all_roles ≡ range_with_len 0 MAX_ROLES
all_numbers = refl

is_among : (r : RoleId) → r.0 < MAX_ROLES → Elem all_roles r
is_among r low = over all_roles all_numbers
  where
    over : (rs : List RoleId) → map (λ (r : RoleId). r.0) rs ≡ range_with_len 0 MAX_ROLES → Elem rs r
    over rs numbers =
        let (x, there, same) = of_map (λ (r : RoleId). r.0) rs r.0 (subst (λ ns. Elem ns r.0) (sym numbers) (in_range 0 MAX_ROLES r.0 (omega arith) (omega (arith, low)))) in
        subst (λ x. Elem rs x) (sym (one_role r x same)) there

in_filter : {A : Type 0} (test : A → Bool) (xs : List A) (x : A) → Elem xs x → test x ≡ true → Elem (filter test xs) x
in_filter test [] x there passes = elim there [ ]
in_filter {A} test (y ∷ ys) x there passes = by (test y) refl there (λ k. in_filter test ys x k passes)
  where
    by : (b : Bool) → test y ≡ b → Elem (y ∷ ys) x → (Elem ys x → Elem (filter test ys) x) → Elem (cond b (y ∷ filter test ys) (filter test ys)) x
    by true e (inl same) on = inl same
    by true e (inr k) on = inr (on k)
    by false e (inl same) on = absurd (clash (test x) passes (ap test same ∙ e))
    by false e (inr k) on = on k

-- roles of a list

pub listed : (active : List RoleId) (r : RoleId) → Elem active r → lists same_role active r ≡ true
listed active r there = any_intro (same_role r) active r there (same_role_of r r refl)

pub of_listed : (active : List RoleId) (r : RoleId) → lists same_role active r ≡ true → Elem active r
of_listed active r h = let (x, there, same) = any_elim (same_role r) active h in subst (λ x. Elem active x) (sym (is_same_role r x same)) there

-- the walk that the definitions compute

abbrev walk_in : Option (Path RoleId) → Option RoleWalk
walk_in None = None
walk_in (Some p) = Some (record { start = p.start; edges = p.arcs })

abbrev path_of : RoleWalk → Path RoleId
path_of w = record { start = w.start; arcs = w.edges }

module _ (edges : List HierEdge) (ok : ℕ → HierEdge → Bool) (from goal : RoleId → Bool) where
  is_least : (w : RoleWalk) (starts : List RoleId) (o : Option (Path RoleId)) → MatchOption o (HasNoWalk (role_arcs ok edges) goal starts) (IsLeastWalk (role_arcs ok edges) goal starts)
      → walk_in o ≡ Some w → IsLeastWalk (role_arcs ok edges) goal starts (path_of w)
  is_least w starts None told is = cc
  is_least w starts (Some p) told is = let same : record { start = p.start; edges = p.arcs } ≡ w = cc in subst (λ v. IsLeastWalk (role_arcs ok edges) goal starts (path_of v)) same told

  is_none : (starts : List RoleId) (o : Option (Path RoleId)) → MatchOption o (HasNoWalk (role_arcs ok edges) goal starts) (IsLeastWalk (role_arcs ok edges) goal starts)
      → walk_in o ≡ None → HasNoWalk (role_arcs ok edges) goal starts
  is_none starts None told is = told
  is_none starts (Some p) told is = cc

  -- where it is there, it is the least
  pub found : (w : RoleWalk) → least_role_walk edges ok from goal ≡ Some w → IsLeastWalk (role_arcs ok edges) goal (filter from all_roles) (path_of w)
  found w = over all_roles
    where
      over : (rs : List RoleId) → walk_in (least_walk same_role (role_arcs ok edges) goal (filter from rs)) ≡ Some w → IsLeastWalk (role_arcs ok edges) goal (filter from rs) (path_of w)
      over rs is = is_least w (filter from rs) _ (least_walk_is same_role tells_apart (role_arcs ok edges) goal (filter from rs)) is

  -- where it is not, none leads from a role that passes to a goal
  pub not_found : least_role_walk edges ok from goal ≡ None → (r : RoleId) → r.0 < MAX_ROLES → from r ≡ true → (walk : List ℕ) (end : RoleId) → LeadsAlong (role_arcs ok edges) r walk end → goal end ≡ true → ⊥
  not_found none r low passes walk end leads reached = over all_roles (is_among r low) none
    where
      over : (rs : List RoleId) → Elem rs r → walk_in (least_walk same_role (role_arcs ok edges) goal (filter from rs)) ≡ None → ⊥
      over rs there is =
          let (place, at) = is_in (filter from rs) r (in_filter from rs r there passes) in
          is_none (filter from rs) _ (least_walk_is same_role tells_apart (role_arcs ok edges) goal (filter from rs)) is place
          (record { start = r; arcs = walk }) (record { end = end; from_start = at; leads = leads; reaches = reached })
