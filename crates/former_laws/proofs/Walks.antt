-- Walks and decisions while every edge is on.
use Rattle.std.proofs.Common.{◌≡◌, ℕ, zero, suc, ◌+◌, ◌<◌, Bool, true, false, cond, ◌&&◌, List, [], ◌∷◌, length, map, filter, Option, Some, None, refl, ◌∙◌, ap, arith, if◌then◌else◌}
use Rattle.std.specs.List.{enumerate_from}
use Rattle.gt_base.specs.declared.events.RoleId.{RoleId}
use Rattle.gt_base.specs.declared.events.UserId.{UserId}
use Rattle.gt_base.specs.declared.events.PermId.{PermId}
use Rattle.gt_base.specs.declared.events.Fluent.TheVariants.{Enabled, Assigned, Granted, Edge}
use Rattle.gt_base.specs.declared.policies.HierEdge.{HierEdge}
use Rattle.gt_base.specs.declared.requests.Decision.{Decision}
use Rattle.gt_base.specs.declared.requests.Decision.TheVariants.{Permit, NoGrant, Shut}
use Rattle.gt_base.specs.Held.{RoleWalk}
use Rattle.gtrbac_model.specs.Same.{same_role, lists}
use Rattle.gtrbac_model.specs.Conflict.{Status, won, turns_on, turns_off}
use Rattle.gtrbac_model.specs.Policy.{Policy}
use Rattle.gtrbac_model.specs.Status.{Model, status_after}
use Rattle.gtrbac_model.specs.Graph.{least_walk, item_at}
use Rattle.gtrbac_model.specs.Hierarchy.{usable, role_arcs, all_roles, activation_walk, permission_walk, permission_walk_of_any}
use Rattle.gtrbac_model.specs.Decision.{decide}
use Rattle.former_laws.specs.Walks.{former_usable, former_arcs, former_role_walk, former_activation, former_permission, former_permission_of_any, former_lends, former_first_shut, former_denied, former_decision, AreLinked}

and_on : (a b : Bool) → (a && true && b) ≡ (a && b)
and_on true b = refl
and_on false b = refl

pub usable_as_before : (s : Status) (inherits : Bool) (n : ℕ) (e : HierEdge) → s (Edge n) ≡ true → usable s inherits n e ≡ former_usable s inherits e
usable_as_before s inherits n e on =
    let kind = cond inherits e.inherits e.activates in
    let roles = cond e.strong (s (Enabled e.senior) && s (Enabled e.junior)) (s (Enabled (cond inherits e.senior e.junior))) in
    ap (λ b. kind && b && roles) on ∙ and_on kind roles

-- arcs that are numbered from m on
arcs_alike : (ok : ℕ → HierEdge → Bool) (former : HierEdge → Bool) (m : ℕ) (edges : List HierEdge)
    → ((n : ℕ) (e : HierEdge) → n < length edges → item_at edges n ≡ Some e → ok (m + n) e ≡ former e)
    → map (λ (e : ℕ × HierEdge). record { from = e.1.senior; to = e.1.junior; is_open = ok e.0 e.1 }) (enumerate_from m edges) ≡ former_arcs former edges
arcs_alike ok former m [] agree = refl
arcs_alike ok former m (e ∷ es) agree =
    let first : ok m e ≡ former e = ap (λ n. ok n e) (omega arith) ∙ agree 0 e (omega arith) refl in
    let later : (n : ℕ) (f : HierEdge) → n < length es → item_at es n ≡ Some f → ok (m + 1 + n) f ≡ former f =
    λ n f lt at. ap (λ k. ok k f) (moved m n) ∙ agree (suc n) f (omega (arith, lt)) at in
    (λ i. record { from = e.senior; to = e.junior; is_open = first i } ∷ arcs_alike ok former (m + 1) es later i)
  where
    moved : (m n : ℕ) → m + 1 + n ≡ m + suc n
    moved m n = omega arith

linked_arcs : (s : Status) (inherits : Bool) (edges : List HierEdge) → AreLinked s edges
    → role_arcs (usable s inherits) edges ≡ former_arcs (former_usable s inherits) edges
linked_arcs s inherits edges linked = arcs_alike (usable s inherits) (former_usable s inherits) 0 edges (λ n e lt at. same n e lt)
  where
    same : (n : ℕ) (e : HierEdge) → n < length edges → usable s inherits (0 + n) e ≡ former_usable s inherits e
    same n e lt = ap (λ k. usable s inherits k e) (omega arith) ∙ usable_as_before s inherits n e (linked n lt)

pub allowed_as_before : (edges : List HierEdge) (s : Status) (user : UserId) (role : RoleId) → AreLinked s edges
    → activation_walk edges s user role ≡ former_activation edges s user role
allowed_as_before edges s user role linked =
    ap (λ arcs. former_role_walk (least_walk same_role arcs (same_role role) (filter (λ r. s (Assigned user r)) all_roles))) (linked_arcs s false edges linked)

pub lent_as_before : (edges : List HierEdge) (s : Status) (active : List RoleId) (perm : PermId) → AreLinked s edges
    → permission_walk edges s active perm ≡ former_permission edges s active perm
lent_as_before edges s active perm linked =
    ap (λ arcs. former_role_walk (least_walk same_role arcs (λ r. s (Granted perm r)) (filter (lists same_role active) all_roles))) (linked_arcs s true edges linked)

pub any_as_before : (edges : List HierEdge) (s : Status) (active : List RoleId) (perm : PermId)
    → permission_walk_of_any edges s active perm ≡ former_permission_of_any edges s active perm
any_as_before edges s active perm =
    ap (λ arcs. former_role_walk (least_walk same_role arcs (λ r. s (Granted perm r)) (filter (lists same_role active) all_roles)))
    (arcs_alike (λ n e. e.inherits) (λ e. e.inherits) 0 edges (λ n e lt at. refl))

below : {A : Type 0} (xs : List A) (n : ℕ) (x : A) → item_at xs n ≡ Some x → n < length xs
below [] n x at = cc
below (y ∷ ys) zero x at = omega arith
below (y ∷ ys) (suc n) x at = omega (arith, below ys n x at)

-- the words of the decision, as the model has them
abbrev is_usable_edge : Status → List HierEdge → ℕ → Bool
is_usable_edge s edges n = elim (item_at edges n) [ Some e ↦ usable s true n e | None ↦ false ]

abbrev first_unusable : Status → List HierEdge → List ℕ → ℕ
first_unusable s edges [] = 0
first_unusable s edges (n ∷ ns) = if is_usable_edge s edges n then first_unusable s edges ns else n

abbrev denied : Status → List HierEdge → Option RoleWalk → Decision
denied s edges None = NoGrant
denied s edges (Some w) = Shut (first_unusable s edges w.edges)

abbrev passes : (HierEdge → Bool) → Option HierEdge → Bool
passes test found = elim found [ Some e ↦ test e | None ↦ false ]

lends_as_before : (edges : List HierEdge) (s : Status) → AreLinked s edges → (n : ℕ) → is_usable_edge s edges n ≡ former_lends s edges n
lends_as_before edges s linked n = by (item_at edges n) refl
  where
    by : (found : Option HierEdge) → item_at edges n ≡ found → passes (usable s true n) found ≡ passes (former_usable s true) found
    by (Some e) at = usable_as_before s true n e (linked n (below edges n e at))
    by None at = refl

shut_as_before : (edges : List HierEdge) (s : Status) → AreLinked s edges → (ns : List ℕ) → first_unusable s edges ns ≡ former_first_shut s edges ns
shut_as_before edges s linked [] = refl
shut_as_before edges s linked (n ∷ ns) =
    ap (λ (b : Bool). if b then first_unusable s edges ns else n) (lends_as_before edges s linked n)
    ∙ ap (λ (k : ℕ). if former_lends s edges n then k else n) (shut_as_before edges s linked ns)

denied_as_before : (edges : List HierEdge) (s : Status) → AreLinked s edges → (w : Option RoleWalk) → denied s edges w ≡ former_denied s edges w
denied_as_before edges s linked None = refl
denied_as_before edges s linked (Some w) = ap (λ n. Shut n) (shut_as_before edges s linked w.edges)

pub decided_as_before : (edges : List HierEdge) (s : Status) (active : List RoleId) (perm : PermId) → AreLinked s edges
    → decide edges s active perm ≡ former_decision edges s active perm
decided_as_before edges s [] perm linked = refl
decided_as_before edges s (r ∷ rs) perm linked =
    ap (λ (w : Option RoleWalk). elim w [ Some v ↦ Permit v | None ↦ denied s edges (permission_walk_of_any edges s (r ∷ rs) perm) ]) (lent_as_before edges s (r ∷ rs) perm linked)
    ∙ ap (λ (d : Decision). elim (former_permission edges s (r ∷ rs) perm) [ Some v ↦ Permit v | None ↦ d ])
    (denied_as_before edges s linked (permission_walk_of_any edges s (r ∷ rs) perm) ∙ ap (former_denied s edges) (any_as_before edges s (r ∷ rs) perm))

pub stay_linked : (p : Policy) (birth : ℕ) (m : Model) → AreLinked (status_after p birth m 0) p.edges
    → ((t n : ℕ) → n < length p.edges → won (m t) (turns_off (Edge n)) ≡ false) → (k : ℕ) → AreLinked (status_after p birth m k) p.edges
stay_linked p birth m first never zero = first
stay_linked p birth m first never (suc k) = λ n lt.
    so (won (m (birth + suc k)) (turns_on (Edge n))) _ _ (never (birth + suc k) n lt) (stay_linked p birth m first never k n lt)
  where
    so : (on off before : Bool) → off ≡ false → before ≡ true → cond on true (cond off false before) ≡ true
    so true off before none was = refl
    so false off before none was = rw none was
