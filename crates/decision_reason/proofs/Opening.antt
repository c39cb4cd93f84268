-- Where each edge of the least walk over any edges is usable, it is the least walk of usable edges.
use Rattle.std.proofs.Common.{◌≡◌, ℕ, Bool, true, false, ◌&&◌, cond, List, [], ◌∷◌, Option, Some, None, refl, sym, ◌∙◌, ap, if◌then◌else◌}
use Rattle.gt_base.specs.declared.events.RoleId.{RoleId}
use Rattle.gt_base.specs.declared.events.PermId.{PermId}
use Rattle.gt_base.specs.declared.events.Fluent.TheVariants.{Enabled, Granted, Edge}
use Rattle.gt_base.specs.declared.policies.HierEdge.{HierEdge}
use Rattle.gt_base.specs.declared.requests.Decision.{Decision}
use Rattle.gt_base.specs.declared.requests.Decision.TheVariants.{Permit}
use Rattle.gt_base.specs.Held.{RoleWalk}
use Rattle.gtrbac_model.specs.Conflict.{Status}
use Rattle.gtrbac_model.specs.Graph.{item_at}
use Rattle.gtrbac_model.specs.Same.{same_role, lists}
use Rattle.gtrbac_model.specs.Hierarchy.{usable, permission_walk, permission_walk_of_any}
use Rattle.hybrid_hierarchy.proofs.Narrowing.{AllPass, walk_of_fewer, none_of_fewer}
use Rattle.decision_reason.specs.Shut.{is_usable_edge, first_unusable, first_shut, denied_by, by_walks}

-- a usable edge lends permissions
lends : (s : Status) (n : ℕ) (e : HierEdge) → usable s true n e ≡ true → e.inherits ≡ true
lends s n e on = by e.inherits (s (Edge n)) (cond e.strong (s (Enabled e.senior) && s (Enabled e.junior)) (s (Enabled e.senior))) on
  where
    by : (a b c : Bool) → (a && b && c) ≡ true → a ≡ true
    by true b c h = refl
    by false b c h = h

abbrev opens : Status → ℕ → Option HierEdge → Bool
opens s n (Some e) = usable s true n e
opens s n None = false

abbrev or_this : Status → List HierEdge → ℕ → List ℕ → Bool → Option ℕ
or_this s edges n ns b = if b then first_shut s edges ns else Some n

-- where none is shut, each passes
none_shut : (s : Status) (edges : List HierEdge) (ns : List ℕ) → first_shut s edges ns ≡ None → AllPass (usable s true) edges ns
none_shut s edges [] is = tt
none_shut s edges (n ∷ ns) is = by (item_at edges n) refl is (none_shut s edges ns)
  where
    one : (e : HierEdge) → item_at edges n ≡ Some e → (b : Bool) → usable s true n e ≡ b → or_this s edges n ns b ≡ None → (first_shut s edges ns ≡ None → AllPass (usable s true) edges ns) → AllPass (usable s true) edges (n ∷ ns)
    one e at true on is rest = ((e, at, on), rest is)
    one e at false on is rest = cc

    by : (o : Option HierEdge) → item_at edges n ≡ o → or_this s edges n ns (opens s n o) ≡ None → (first_shut s edges ns ≡ None → AllPass (usable s true) edges ns) → AllPass (usable s true) edges (n ∷ ns)
    by (Some e) at is rest = one e at (usable s true n e) refl is rest
    by None at is rest = cc

-- the first one that is shut
pub shut_first : (s : Status) (edges : List HierEdge) (ns : List ℕ) (n : ℕ) → first_shut s edges ns ≡ Some n → first_unusable s edges ns ≡ n
shut_first s edges [] n is = cc
shut_first s edges (m ∷ ns) n is = by (is_usable_edge s edges m) is (shut_first s edges ns n)
  where
    by : (b : Bool) → or_this s edges m ns b ≡ Some n → (first_shut s edges ns ≡ Some n → first_unusable s edges ns ≡ n) → (if b then first_unusable s edges ns else m) ≡ n
    by true is rest = rest is
    by false is rest = cc

module _ (edges : List HierEdge) (s : Status) (active : List RoleId) (perm : PermId) where
  pub open_walk : (w : RoleWalk) → permission_walk_of_any edges s active perm ≡ Some w → first_shut s edges w.edges ≡ None → permission_walk edges s active perm ≡ Some w
  open_walk w is none =
      walk_of_fewer edges (λ n e. e.inherits) (usable s true) (lends s) (lists same_role active) (λ r. s (Granted perm r)) w is (none_shut s edges w.edges none)

  pub no_walk : permission_walk_of_any edges s active perm ≡ None → permission_walk edges s active perm ≡ None
  no_walk is = none_of_fewer edges (λ n e. e.inherits) (usable s true) (lends s) (lists same_role active) (λ r. s (Granted perm r)) is

  -- the decision in each case
  pub permits : (w : RoleWalk) → permission_walk edges s active perm ≡ Some w → Permit w ≡ by_walks s edges (permission_walk edges s active perm) (permission_walk_of_any edges s active perm)
  permits w is = ap (λ o. by_walks s edges o (permission_walk_of_any edges s active perm)) (sym is)

  pub denies : (d : Decision) → permission_walk edges s active perm ≡ None → denied_by s edges (permission_walk_of_any edges s active perm) ≡ d
      → d ≡ by_walks s edges (permission_walk edges s active perm) (permission_walk_of_any edges s active perm)
  denies d is told = sym told ∙ ap (λ o. by_walks s edges o (permission_walk_of_any edges s active perm)) (sym is)
