-- The least walk that a search finds is the walk of the model.
use Rattle.std.proofs.Common.{◌≡◌, ℕ, zero, suc, ◌+◌, ◌<◌, Bool, true, false, cond, List, [], ◌∷◌, map, filter, Option, Some, None, MatchOption, Result, Ok, Err, IfOk, refl, sym, ◌∙◌, ap, subst, arith}
use Rattle.std.specs.List.{range_with_len}
use Rattle.gt_base.specs.declared.events.RoleId.{RoleId}
use Rattle.gt_base.specs.declared.policies.HierEdge.{HierEdge}
use Rattle.gt_base.specs.Held.{RoleWalk}
use Rattle.gtrbac_model.specs.Graph.{Path, IsLeastWalk, least_walk, item_at}
use Rattle.gtrbac_model.specs.Same.{same_role}
use Rattle.gtrbac_model.specs.Hierarchy.{all_roles, role_arcs, least_role_walk}
use Rattle.walk_laws.specs.Laws.{HasNoWalk}
use Rattle.walk_laws.proofs.Computing.{least_walk_is}
use Rattle.walk_laws.proofs.Orders.{one_least_walk}
use Rattle.hybrid_hierarchy.specs.Searches.{roles_of}
use Rattle.walk_laws.proofs.Roles.{tells_apart}
use Rattle.hybrid_hierarchy.proofs.Roles.{role, number}

-- the numbers of the roles that pass are the numbers that pass
filter_numbers : (test : RoleId → Bool) (rs : List RoleId) → map number (filter test rs) ≡ filter (λ n. test (role n)) (map number rs)
filter_numbers test [] = refl
filter_numbers test (r ∷ rs) = by (test r) (filter_numbers test rs)
  where
    by : (b : Bool) → map number (filter test rs) ≡ filter (λ n. test (role n)) (map number rs)
        → map number (cond b (r ∷ filter test rs) (filter test rs)) ≡ cond b (r.0 ∷ filter (λ n. test (role n)) (map number rs)) (filter (λ n. test (role n)) (map number rs))
    by true e = ap (λ ns. r.0 ∷ ns) e
    by false e = e

roles_again : (rs : List RoleId) → roles_of (map number rs) ≡ rs
roles_again [] = refl
roles_again (r ∷ rs) = ap (λ xs. r ∷ xs) (roles_again rs)

all_numbers : map number all_roles ≡ range_with_len 0 1_000
all_numbers = refl

-- in the code's words: the roles that pass, ascending
abbrev pub nodes_that : (RoleId → Bool) → List ℕ
nodes_that test = filter (λ n. test (record { 0 = n })) (range_with_len 0 1_000)

pub item_of_range : (a n i s : ℕ) → item_at (range_with_len a n) i ≡ Some s → s < a + n
item_of_range a zero i s is = cc
item_of_range a (suc n) zero s is = let e : a ≡ s = cc in omega arith
item_of_range a (suc n) (suc i) s is = let rest = item_of_range (a + 1) n i s is in let r : s < a + 1 + n = rest in omega arith

pub starts_low : (test : ℕ → Bool) (i s : ℕ) → item_at (filter test (range_with_len 0 1_000)) i ≡ Some s → s < 1_000
starts_low test i s is = kept test (range_with_len 0 1_000) (λ j t at. let low : t < 0 + 1_000 = item_of_range 0 1_000 j t at in omega arith) i s is
  where
    kept_step : (test : ℕ → Bool) (x : ℕ) (xs : List ℕ) → x < 1_000 → ((i s : ℕ) → item_at (filter test xs) i ≡ Some s → s < 1_000)
        → (b : Bool) (i s : ℕ) → item_at (cond b (x ∷ filter test xs) (filter test xs)) i ≡ Some s → s < 1_000
    kept_step test x xs low rest true zero s is = let e : x ≡ s = cc in omega arith
    kept_step test x xs low rest true (suc i) s is = rest i s is
    kept_step test x xs low rest false i s is = rest i s is

    kept : (test : ℕ → Bool) (xs : List ℕ) → ((i s : ℕ) → item_at xs i ≡ Some s → s < 1_000) → (i s : ℕ) → item_at (filter test xs) i ≡ Some s → s < 1_000
    kept test [] low i s is = cc
    kept test (x ∷ xs) low i s is = kept_step test x xs (low 0 x refl) (kept test xs (λ j t. low (suc j) t)) (test x) i s is

abbrev role_walk : Option (Path RoleId) → Option RoleWalk
role_walk None = None
role_walk (Some p) = Some (record { start = p.start; edges = p.arcs })

module _ (es : List HierEdge) (ok : ℕ → HierEdge → Bool) (goal : RoleId → Bool) (starts : List RoleId) where
  the_least : (p : Path RoleId) → IsLeastWalk (role_arcs ok es) goal starts p → (o : Option (Path RoleId)) → MatchOption o (HasNoWalk (role_arcs ok es) goal starts) (IsLeastWalk (role_arcs ok es) goal starts) → o ≡ Some p
  the_least p w None none = absurd (none w.place p w.is_walk)
  the_least p w (Some q) least = ap Some (one_least_walk (role_arcs ok es) goal starts q p least w)

  no_least : HasNoWalk (role_arcs ok es) goal starts → (o : Option (Path RoleId)) → MatchOption o (HasNoWalk (role_arcs ok es) goal starts) (IsLeastWalk (role_arcs ok es) goal starts) → o ≡ None
  no_least none None _ = refl
  no_least none (Some q) least = absurd (none least.place q least.is_walk)

  -- what was told is what the model computes
  pub walk_told : (o : Option RoleWalk) → MatchOption o (HasNoWalk (role_arcs ok es) goal starts) (λ w. IsLeastWalk (role_arcs ok es) goal starts (record { start = w.start; arcs = w.edges }))
      → o ≡ role_walk (least_walk same_role (role_arcs ok es) goal starts)
  walk_told None none = sym (ap role_walk (no_least none _ (least_walk_is same_role tells_apart (role_arcs ok es) goal starts)))
  walk_told (Some w) least = sym (ap role_walk (the_least (record { start = w.start; arcs = w.edges }) least _ (least_walk_is same_role tells_apart (role_arcs ok es) goal starts)))

walk_is : (es : List HierEdge) (ok : ℕ → HierEdge → Bool) (from goal : RoleId → Bool) (o : Option RoleWalk)
    → MatchOption o (HasNoWalk (role_arcs ok es) goal (roles_of (nodes_that from))) (λ w. IsLeastWalk (role_arcs ok es) goal (roles_of (nodes_that from)) (record { start = w.start; arcs = w.edges }))
    → o ≡ least_role_walk es ok from goal
walk_is es ok from goal o told = over all_roles all_numbers told
  where
    Told : List RoleId → Type 0
    Told starts = MatchOption o (HasNoWalk (role_arcs ok es) goal starts) (λ w. IsLeastWalk (role_arcs ok es) goal starts (record { start = w.start; arcs = w.edges }))

    over : (rs : List RoleId) → map number rs ≡ range_with_len 0 1_000 → Told (roles_of (nodes_that from)) → o ≡ role_walk (least_walk same_role (role_arcs ok es) goal (filter from rs))
    over rs e told =
        let same : nodes_that from ≡ map number (filter from rs) = ap (filter (λ n. from (role n))) (sym e) ∙ sym (filter_numbers from rs) in
        walk_told es ok goal (filter from rs) o (subst Told (ap roles_of same ∙ roles_again (filter from rs)) told)

pub whole : {E : Type 0} (es : List HierEdge) (ok : ℕ → HierEdge → Bool) (from goal : RoleId → Bool) (starts : List ℕ) → starts ≡ nodes_that from → (r : Result (Option RoleWalk) E)
    → IfOk r (λ o. MatchOption o (HasNoWalk (role_arcs ok es) goal (roles_of starts)) (λ w. IsLeastWalk (role_arcs ok es) goal (roles_of starts) (record { start = w.start; arcs = w.edges })))
    → IfOk r (λ o. o ≡ least_role_walk es ok from goal)
whole {E} es ok from goal starts e (Err x) told = tt
whole {E} es ok from goal starts e (Ok o) told =
    walk_is es ok from goal o (subst (λ ns. MatchOption o (HasNoWalk (role_arcs ok es) goal (roles_of ns)) (λ w. IsLeastWalk (role_arcs ok es) goal (roles_of ns) (record { start = w.start; arcs = w.edges }))) e told)
