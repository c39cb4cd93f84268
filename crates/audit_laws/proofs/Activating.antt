-- What an answered activation tells: that the walk of the answer allowed it.
use Rattle.std.proofs.Common.{◌≡◌, Bool, true, false, not, inl, inr, count_by, List, [], ◌∷◌, ◌++◌, filter, Option, Some, None, refl, sym, ◌∙◌, ap, subst}
use Rattle.std.specs.List.{list_any}
use Rattle.gt_base.specs.declared.events.RoleId.{RoleId}
use Rattle.gt_base.specs.declared.events.UserId.{UserId}
use Rattle.gt_base.specs.declared.events.SessionId.{SessionId}
use Rattle.gt_base.specs.declared.events.Fluent.TheVariants.{Enabled, Assigned}
use Rattle.gt_base.specs.declared.requests.Actor.{Actor}
use Rattle.gt_base.specs.declared.requests.Refusal.{Refusal}
use Rattle.gt_base.specs.declared.requests.Refusal.TheVariants.{Already, Disabled, NotAssigned, RoleFull, UserFull, DaySpent}
use Rattle.gt_base.specs.declared.requests.Request.TheVariants.{Activate}
use Rattle.gt_base.specs.declared.requests.Reply.{Reply}
use Rattle.gt_base.specs.declared.requests.Reply.TheVariants.{Active, Refused}
use Rattle.gt_base.specs.Held.{RoleWalk}
use Rattle.gtrbac_model.specs.Policy.{Policy}
use Rattle.gtrbac_model.specs.Conflict.{Status}
use Rattle.gtrbac_model.specs.Same.{same_role}
use Rattle.gtrbac_model.specs.Calendar.{day_of}
use Rattle.gtrbac_model.specs.Graph.{LeadsAlong}
use Rattle.gtrbac_model.specs.Hierarchy.{usable, role_arcs, all_roles, activation_walk}
use Rattle.gtrbac_model.specs.Sessions.{owner_of, reached, caps_of, is_of, is_active_in}
use Rattle.gtrbac_model.specs.Reply.{Point, unless, actor_causes, session_causes, answer, reply_of}
use Rattle.walk_laws.proofs.Roles.{is_same_role}
use Rattle.history_laws.proofs.Members.{elem_of, of_filter}
use Rattle.audit_laws.specs.Walks.{Allows}
use Rattle.audit_laws.proofs.Answered.{IsPassed, passed}
use Rattle.audit_laws.proofs.Walking.{found}

pub is_true : (b : Bool) → not b ≡ false → b ≡ true
is_true true e = refl
is_true false e = cc

-- by the walk of the definitions

pub allowed_by : (p : Policy) (s : Status) (u : UserId) (r : RoleId) (w : RoleWalk) → activation_walk p.edges s u r ≡ Some w → s (Enabled r) ≡ true → Allows p s u r w
allowed_by p s u r w is on =
    let least = found p.edges (usable s false) (λ q. s (Assigned u q)) (same_role r) w is in
    let (was, assigned) = of_filter (λ q. s (Assigned u q)) all_roles w.start (elem_of (filter (λ q. s (Assigned u q)) all_roles) w.start (least.place, least.is_walk.from_start)) in
    let at : r ≡ least.is_walk.end = is_same_role r least.is_walk.end least.is_walk.reaches in
    record { is_on = on; assigned = assigned; leads = subst (λ q. LeadsAlong (role_arcs (usable s false) p.edges) w.start w.edges q) (sym at) least.is_walk.leads }

abbrev walk_in : RoleWalk → Reply → RoleWalk
walk_in v (Active w) = w
walk_in v _ = v

module _ (p : Policy) (pt : Point) (actor : Actor) (n : SessionId) (r : RoleId) (u : UserId) (owner : owner_of pt.table n ≡ Some u) where
  -- the causes for which an activation is refused, where this is whether no walk allows it
  abbrev causes : Bool → List (Bool × Refusal)
  causes none =
      session_causes pt.table actor n
      ++ (list_any (is_active_in n r) pt.table.active, Already)
      ∷ (not (pt.status (Enabled r)), Disabled)
      ∷ (none, NotAssigned)
      ∷ (reached (caps_of p.caps r).total (count_by (λ a. same_role a.role r) pt.table.active), RoleFull (count_by (λ a. same_role a.role r) pt.table.active))
      ∷ (reached (caps_of p.caps r).user (count_by (is_of u r) pt.table.active), UserFull (count_by (is_of u r) pt.table.active))
      ∷ (reached (caps_of p.caps r).day (pt.table.charged u r (day_of pt.now)), DaySpent (pt.table.charged u r (day_of pt.now)))
      ∷ []

  by_walk_of : (w : RoleWalk) → activation_walk p.edges pt.status u r ≡ Some w → answer p pt actor (Activate n r) ≡ unless (causes false) (Active w)
  by_walk_of w walk = rw owner (rw walk (rw owner refl))

  by_none : activation_walk p.edges pt.status u r ≡ None → answer p pt actor (Activate n r) ≡ unless (causes true) (Refused NotAssigned)
  by_none none = rw owner (rw none (rw owner refl))

  pub activated : (w : RoleWalk) → Active w ≡ reply_of p pt actor (Activate n r) → Allows p pt.status u r w
  activated w e = by (activation_walk p.edges pt.status u r) refl first.is
    where
      first : IsPassed (actor_causes actor) (Active w) (answer p pt actor (Activate n r))
      first = passed (actor_causes actor) (Active w) (answer p pt actor (Activate n r)) refl e

      by : (o : Option RoleWalk) → activation_walk p.edges pt.status u r ≡ o → Active w ≡ answer p pt actor (Activate n r) → Allows p pt.status u r w
      by (Some v) walk a =
          let c : IsPassed (causes false) (Active w) (Active v) = passed (causes false) (Active w) (Active v) refl (a ∙ by_walk_of v walk) in
          let same : w ≡ v = ap (walk_in v) c.is in
          let on : pt.status (Enabled r) ≡ true = is_true (pt.status (Enabled r)) (c.none (not (pt.status (Enabled r)), Disabled) (inr (inr (inr (inl refl))))) in
          allowed_by p pt.status u r w (walk ∙ ap Some (sym same)) on
      by None walk a = let c = passed (causes true) (Active w) (Refused NotAssigned) refl (a ∙ by_none walk) in let same : Active w ≡ Refused NotAssigned = c.is in cc
