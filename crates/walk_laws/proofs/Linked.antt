-- Edges of the hierarchy that are on, and edges that are off.
use Rattle.std.proofs.Common.{◌≡◌, ◌↔◌, ℕ, ◌+◌, ◌<◌, suc, Bool, true, false, cond, ◌&&◌, List, [], ◌∷◌, length, map, refl, subst, arith}
use Rattle.std.specs.List.{enumerate_from}
use Rattle.gt_base.specs.declared.events.RoleId.{RoleId}
use Rattle.gt_base.specs.declared.events.Fluent.TheVariants.{Enabled, Edge}
use Rattle.gt_base.specs.declared.policies.HierEdge.{HierEdge}
use Rattle.gtrbac_model.specs.Conflict.{Status}
use Rattle.gtrbac_model.specs.Graph.{Arc}
use Rattle.gtrbac_model.specs.Hierarchy.{usable, role_arcs}
use Rattle.walk_laws.specs.Bare.{is_on, open_by_roles}

-- by the kind, the fluent, the role that is always asked and the one that a strong edge asks besides
by_first : (kind strong first second : Bool) → ((kind && true && cond strong (first && second) first) ≡ true) ↔ ((kind ≡ true) × (first ≡ true) × (strong ≡ true → second ≡ true))
by_first true true true b = (λ e. (refl, refl, λ _. e), λ h. h.2 refl)
by_first true true false b = (λ e. cc, λ h. h.1)
by_first true false a b = (λ e. (refl, e, λ f. cc), λ h. h.1)
by_first false strong a b = (λ e. cc, λ h. h.0)

by_second : (kind strong first second : Bool) → ((kind && true && cond strong (first && second) second) ≡ true) ↔ ((kind ≡ true) × (second ≡ true) × (strong ≡ true → first ≡ true))
by_second true true true b = (λ e. (refl, e, λ _. refl), λ h. h.1)
by_second true true false b = (λ e. cc, λ h. h.2 refl)
by_second true false a b = (λ e. (refl, e, λ f. cc), λ h. h.1)
by_second false strong a b = (λ e. cc, λ h. h.0)

pub lends : (s : Status) (n : ℕ) (e : HierEdge) → s (Edge n) ≡ true → (usable s true n e ≡ true) ↔ ((e.inherits ≡ true) × is_on s e.senior × (e.strong ≡ true → is_on s e.junior))
lends s n e on = rw on (by_first e.inherits e.strong (s (Enabled e.senior)) (s (Enabled e.junior)))

pub allows : (s : Status) (n : ℕ) (e : HierEdge) → s (Edge n) ≡ true → (usable s false n e ≡ true) ↔ ((e.activates ≡ true) × is_on s e.junior × (e.strong ≡ true → is_on s e.senior))
allows s n e on = rw on (by_second e.activates e.strong (s (Enabled e.senior)) (s (Enabled e.junior)))

shut_so : (a b : Bool) → (a && false && b) ≡ false
shut_so true b = refl
shut_so false b = refl

pub shut : (s : Status) (inherits : Bool) (n : ℕ) (e : HierEdge) → s (Edge n) ≡ false → usable s inherits n e ≡ false
shut s inherits n e off = rw off (shut_so (cond inherits e.inherits e.activates) (cond e.strong (s (Enabled e.senior) && s (Enabled e.junior)) (s (Enabled (cond inherits e.senior e.junior)))))

is_open_so : (a b : Bool) → (a && true && b) ≡ (a && b)
is_open_so true b = refl
is_open_so false b = refl

by_roles : (s : Status) (inherits : Bool) (n : ℕ) (e : HierEdge) → s (Edge n) ≡ true → usable s inherits n e ≡ open_by_roles s inherits e
by_roles s inherits n e on =
    rw on (is_open_so (cond inherits e.inherits e.activates) (cond e.strong (s (Enabled e.senior) && s (Enabled e.junior)) (s (Enabled (cond inherits e.senior e.junior)))))

abbrev numbered_arc : Status → Bool → ℕ × HierEdge → Arc RoleId
numbered_arc s inherits e = record { from = e.1.senior; to = e.1.junior; is_open = usable s inherits e.0 e.1 }

abbrev arc_by_roles : Status → Bool → HierEdge → Arc RoleId
arc_by_roles s inherits e = record { from = e.senior; to = e.junior; is_open = open_by_roles s inherits e }

arcs_from : (s : Status) (inherits : Bool) (m : ℕ) (edges : List HierEdge) → ((n : ℕ) → n < length edges → s (Edge (m + n)) ≡ true)
    → map (numbered_arc s inherits) (enumerate_from m edges) ≡ map (arc_by_roles s inherits) edges
arcs_from s inherits m [] on = refl
arcs_from s inherits m (e ∷ es) on =
    let here : m + 0 ≡ m = omega arith in
    let first : usable s inherits m e ≡ open_by_roles s inherits e = by_roles s inherits m e (subst (λ n. s (Edge n) ≡ true) here (on 0 (omega arith))) in
    let later : (n : ℕ) → n < length es → s (Edge (m + 1 + n)) ≡ true = λ n lt. subst (λ k. s (Edge k) ≡ true) (moved m n) (on (suc n) (omega (arith, lt))) in
    (λ i. record { from = e.senior; to = e.junior; is_open = first i } ∷ arcs_from s inherits (m + 1) es later i)
  where
    moved : (m n : ℕ) → m + suc n ≡ m + 1 + n
    moved m n = omega arith

pub arcs_by_roles : (s : Status) (inherits : Bool) (edges : List HierEdge) → ((n : ℕ) → n < length edges → s (Edge n) ≡ true)
    → role_arcs (usable s inherits) edges ≡ map (λ e. record { from = e.senior; to = e.junior; is_open = open_by_roles s inherits e }) edges
arcs_by_roles s inherits edges on = arcs_from s inherits 0 edges (λ n lt. subst (λ k. s (Edge k) ≡ true) (same n) (on n lt))
  where
    same : (n : ℕ) → n ≡ 0 + n
    same n = omega arith
