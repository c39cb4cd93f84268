-- Worked rows of the hierarchy: walks that allow an activation, and decisions.
use Rattle.std.specs.Prelude.{◌≡◌, ℕ, Bool, true, false, not, nat_eq, List, [], ◌∷◌, Some, None, if◌then◌else◌}
use Rattle.std.specs.declared.cmp.Ordering.TheVariants.{Less}
use Rattle.gt_base.specs.declared.events.LimitId.{LimitId}
use Rattle.gt_base.specs.declared.events.Fluent.TheVariants.{Enabled, Assigned, Granted, Limit, Edge}
use Rattle.gt_base.specs.declared.policies.HierEdge.{HierEdge}
use Rattle.gt_base.specs.declared.requests.Decision.TheVariants.{Permit, NoActive, NoGrant, Shut}
use Rattle.gt_base.specs.Held.{RoleWalk}
use Rattle.gt_base.specs.Orders.{fluent_cmp}
use Rattle.gtrbac_model.specs.Conflict.{Status}
use Rattle.gtrbac_model.specs.Hierarchy.{activation_walk}
use Rattle.gtrbac_model.specs.Decision.{decide}
use Rattle.gtrbac_model.specs.ConflictRows.{role, user, perm}

-- Hierarchy: s, j, t, k are 0 to 3; user 0 is assigned to s and t; permission 0 is granted to j and
-- 1 to k.
abbrev pub edge : ℕ → ℕ → Bool → Bool → HierEdge
edge a b inherits strong = record {
  senior = role a;
  junior = role b;
  inherits = inherits;
  activates = not inherits;
  strong = strong;
}

abbrev pub fork : Bool → List HierEdge
fork strong = edge 0 1 true false ∷ edge 2 3 false strong ∷ []

abbrev pub fork_status : Bool → Status
fork_status t (Enabled r) = if nat_eq r.0 2 then t else true
fork_status t (Assigned u r) = if nat_eq r.0 0 then true else nat_eq r.0 2
fork_status t (Granted p r) = nat_eq (r.0) (if nat_eq p.0 0 then 1 else 3)
fork_status t (Limit l) = false
fork_status t (Edge n) = true

abbrev pub walk : ℕ → List ℕ → RoleWalk
walk r es = record { start = role r; edges = es }

-- Diamond: chief, doctor, nurse, aide are 0 to 3.
abbrev pub diamond : List HierEdge
diamond = edge 0 1 true false ∷ edge 0 2 true false ∷ edge 1 3 true false ∷ edge 2 3 true false ∷ []

abbrev pub diamond_status : Bool → Bool → Status
diamond_status doctor nurse (Enabled r) = if nat_eq r.0 1 then doctor else if nat_eq r.0 2
    then nurse else true
diamond_status doctor nurse (Granted p r) = nat_eq r.0 3
diamond_status doctor nurse (Edge n) = true
diamond_status doctor nurse _ = false

-- All roles are enabled, and one edge is off: user 0 is assigned to role 0, and permission 0 is
-- granted to this role.
abbrev pub without_edge : ℕ → ℕ → Status
without_edge granted n (Enabled r) = true
without_edge granted n (Assigned u r) = nat_eq r.0 0
without_edge granted n (Granted p r) = nat_eq r.0 granted
without_edge granted n (Limit l) = false
without_edge granted n (Edge e) = not (nat_eq e n)

pub record AreWalkRows : Type 0 where
  pub j_not_allowed : activation_walk (fork false) (fork_status true) (user 0) (role 1) ≡ None
  pub k_allowed : activation_walk (fork false) (fork_status true) (user 0) (role 3)
      ≡ Some (walk 2 (1 ∷ []))
  pub k_still_allowed : activation_walk (fork false) (fork_status false) (user 0) (role 3)
      ≡ Some (walk 2 (1 ∷ []))
  pub k_not_allowed : activation_walk (fork true) (fork_status false) (user 0) (role 3) ≡ None
  pub pj_by_s : decide (fork false) (fork_status true) (role 0 ∷ []) (perm 0)
      ≡ Permit (walk 0 (0 ∷ []))
  pub pk_by_t : decide (fork false) (fork_status true) (role 2 ∷ []) (perm 1) ≡ NoGrant
  pub by_doctor : decide diamond (diamond_status true true) (role 0 ∷ []) (perm 0)
      ≡ Permit (walk 0 (0 ∷ 2 ∷ []))
  pub by_nurse : decide diamond (diamond_status false true) (role 0 ∷ []) (perm 0)
      ≡ Permit (walk 0 (1 ∷ 3 ∷ []))
  pub shut : decide diamond (diamond_status false false) (role 0 ∷ []) (perm 0) ≡ Shut 2
  pub no_active : decide diamond (diamond_status true true) [] (perm 0) ≡ NoActive
  -- one edge from role 0 to role 1, while edge 1, which is none of them, is off, and while it is
  -- off itself
  pub lent_while_on : decide (edge 0 1 true false ∷ []) (without_edge 1 1) (role 0 ∷ []) (perm 0)
      ≡ Permit (walk 0 (0 ∷ []))
  pub shut_while_off : decide (edge 0 1 true false ∷ []) (without_edge 1 0) (role 0 ∷ []) (perm 0)
      ≡ Shut 0
  pub allowed_while_on : activation_walk (edge 0 1 false false ∷ []) (without_edge 1 1) (user 0)
      (role 1) ≡ Some (walk 0 (0 ∷ []))
  pub not_allowed_while_off : activation_walk (edge 0 1 false false ∷ []) (without_edge 1 0)
      (user 0) (role 1) ≡ None
  -- the walk goes round an edge that is off, and a strong edge is shut by it as well
  pub round_it : decide diamond (without_edge 3 0) (role 0 ∷ []) (perm 0)
      ≡ Permit (walk 0 (1 ∷ 3 ∷ []))
  pub strong_is_shut : decide (edge 0 1 true true ∷ []) (without_edge 1 0) (role 0 ∷ []) (perm 0)
      ≡ Shut 0
  pub none_is_no_grant : decide (edge 0 1 false false ∷ []) (without_edge 1 0) (role 0 ∷ [])
      (perm 0) ≡ NoGrant
  -- edges come last in the order of fluents, by their numbers
  pub edges_come_last : (l : LimitId) (n : ℕ) → fluent_cmp (Limit l) (Edge n) ≡ Less
  pub edges_by_number : fluent_cmp (Edge 3) (Edge 10) ≡ Less
