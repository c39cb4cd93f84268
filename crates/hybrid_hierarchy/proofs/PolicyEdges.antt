-- The edges of a policy are a hierarchy.
use Rattle.std.proofs.Common.{◌≡◌, ℕ, zero, suc, Bool, true, not, ◌&&◌, ◌||◌, nat_le, nat_lt, List, [], ◌∷◌, length, Some, subst, arith}
use Rattle.std.specs.List.{list_all}
use Rattle.std.proofs.lemmas.Bool.{leb-true, ltb-true}
use Rattle.gt_base.specs.declared.policies.HierEdge.{HierEdge}
use Rattle.gtrbac_model.specs.Graph.{item_at}
use Rattle.gtrbac_model.specs.Policy.{Policy}
use Rattle.gtrbac_model.proofs.Elements.{both_true}
use Rattle.gtrbac_model.specs.WholePolicy.{IsPolicy, is_edge, joined_twice}
use Rattle.hybrid_hierarchy.specs.Nets.{IsHierarchy, HasRoles}

all_at : {A : Type 0} (p : A → Bool) (xs : List A) → list_all p xs ≡ true → (n : ℕ) (x : A) → item_at xs n ≡ Some x → p x ≡ true
all_at p [] all n x is = cc
all_at p (y ∷ ys) all zero x is = let same : y ≡ x = cc in subst (λ z. p z ≡ true) same (both_true (p y) (list_all p ys) all).0
all_at p (y ∷ ys) all (suc n) x is = all_at p ys (both_true (p y) (list_all p ys) all).1 n x is

pub hierarchy_of : (p : Policy) → IsPolicy p → IsHierarchy p.edges
hierarchy_of p is =
    let parts = both_true (nat_le (length p.edges) 4_000 && list_all (is_edge p) p.edges) (not (joined_twice p.edges)) is.edges in
    let front = both_true (nat_le (length p.edges) 4_000) (list_all (is_edge p) p.edges) parts.0 in
    record {
      few = leb-true (length p.edges) 4_000 front.0;
      within = λ n e at. roles e (all_at (is_edge p) p.edges front.1 n e at);
    }
  where
    roles : (e : HierEdge) → is_edge p e ≡ true → HasRoles 1_000 e
    roles e ok =
        let parts = both_true (nat_lt e.senior.0 p.roles && nat_lt e.junior.0 p.roles) (e.inherits || e.activates) ok in
        let both = both_true (nat_lt e.senior.0 p.roles) (nat_lt e.junior.0 p.roles) parts.0 in
        record {
          senior_in = omega (arith, is.roles, ltb-true e.senior.0 p.roles both.0);
          junior_in = omega (arith, is.roles, ltb-true e.junior.0 p.roles both.1);
        }
