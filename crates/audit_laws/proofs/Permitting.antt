-- A permit stands on an open session, an activation that is earned, and a walk that lends now.
use Rattle.std.proofs.Common.{◌≡◌, ℕ, true, List, [], ◌∷◌, filter, Option, Some, None, refl, sym, ◌∙◌, ap}
use Rattle.std.proofs.lemmas.Bool.{eqb-true}
use Rattle.std.specs.Option.{unwrap_or}
use Rattle.gt_base.specs.declared.events.RoleId.{RoleId}
use Rattle.gt_base.specs.declared.events.SessionId.{SessionId}
use Rattle.gt_base.specs.declared.events.PermId.{PermId}
use Rattle.gt_base.specs.declared.events.Fluent.TheVariants.{Granted}
use Rattle.gt_base.specs.declared.policies.HierEdge.{HierEdge}
use Rattle.gt_base.specs.declared.requests.Decision.{Decision}
use Rattle.gt_base.specs.declared.requests.Decision.TheVariants.{Permit, NoGrant, Shut}
use Rattle.gt_base.specs.declared.requests.Request.TheVariants.{Check}
use Rattle.gt_base.specs.declared.requests.Reply.TheVariants.{Decided}
use Rattle.gt_base.specs.declared.requests.Entry.{Entry}
use Rattle.gt_base.specs.Held.{RoleWalk}
use Rattle.gt_base.specs.Machines.{asked}
use Rattle.gtrbac_model.specs.Conflict.{Status}
use Rattle.gtrbac_model.specs.Same.{same_role, same_session, lists}
use Rattle.gtrbac_model.specs.Hierarchy.{usable, all_roles, permission_walk, permission_walk_of_any}
use Rattle.gtrbac_model.specs.Sessions.{Activation, owner_of}
use Rattle.gtrbac_model.specs.Decision.{decide}
use Rattle.gtrbac_model.specs.Reply.{Point, roles_of}
use Rattle.gtrbac_model.specs.History.{AreLegalAfter, point_after, Legal}
use Rattle.gtrbac_model.proofs.Playing.{goes_on}
use Rattle.history_laws.specs.Activations.{IsInOrder}
use Rattle.history_laws.proofs.Members.{elem_of, is_in, of_map, of_filter}
use Rattle.history_laws.proofs.InOrder.{active_in_order}
use Rattle.history_laws.proofs.Lasting.{steps_after}
use Rattle.audit_laws.specs.Owners.{IsOwn}
use Rattle.audit_laws.specs.Permits.{PermitsAreEarned}
use Rattle.audit_laws.proofs.Owning.{own}
use Rattle.audit_laws.proofs.Checked.{checked}
use Rattle.audit_laws.proofs.Earning.{legal_front, earned}
use Rattle.audit_laws.proofs.Walking.{of_listed, found}

-- a permit is by the walk of the definitions

abbrev walk_by : Decision → Option RoleWalk
walk_by (Permit w) = Some w
walk_by _ = None

by_walk : (o : Option RoleWalk) (d : Decision) → walk_by d ≡ None → walk_by (elim o [ Some w ↦ Permit w | None ↦ d ]) ≡ o
by_walk (Some w) d no_walk = refl
by_walk None d no_walk = no_walk

-- a decision where no usable walk leads to the permission, as the model has it
is_denied : (o : Option RoleWalk) (f : RoleWalk → ℕ) → walk_by (elim o [ None ↦ NoGrant | Some w ↦ Shut (f w) ]) ≡ None
is_denied None f = refl
is_denied (Some w) f = refl

permitted : (edges : List HierEdge) (s : Status) (active : List RoleId) (perm : PermId) (walk : RoleWalk) → Permit walk ≡ decide edges s active perm → permission_walk edges s active perm ≡ Some walk
permitted edges s [] perm walk is = cc
permitted edges s (r ∷ rs) perm walk is = sym (by_walk (permission_walk edges s (r ∷ rs) perm) _ (is_denied (permission_walk_of_any edges s (r ∷ rs) perm) _)) ∙ ap walk_by (sym is)

one_session : (a b : SessionId) → same_session a b ≡ true → a ≡ b
one_session a b e = λ i. record { 0 = eqb-true a.0 b.0 e i }

pub permits_are_earned : PermitsAreEarned
permits_are_earned p birth m g h who actor n perm walk legal =
    let e : Entry = asked who actor (Check n perm) (Decided (Permit walk)) in
    let steps : AreLegalAfter p birth m g (e ∷ h) = steps_after p birth m [] g (e ∷ h) legal.steps in
    let upto : Legal p birth g m = legal_front p birth m g (e ∷ h) legal in
    let pt : Point = point_after p birth m g in
    let here : IsOwn pt.table actor n = own p pt n actor (Check n perm) (Decided (Permit walk)) (owner_of pt.table n) refl refl refl steps.0 in
    let active = roles_of pt.table n in
    let least = found p.edges (usable pt.status true) (lists same_role active) (λ r. pt.status (Granted perm r)) walk (permitted p.edges pt.status active perm walk (checked p pt actor n perm (Permit walk) steps.0)) in
    let (among, passes) = of_filter (lists same_role active) all_roles walk.start (elem_of (filter (lists same_role active) all_roles) walk.start (least.place, least.is_walk.from_start)) in
    let (a, there, of_role) = of_map (λ (a : Activation). a.role) (filter (λ a. same_session a.session n) pt.table.active) walk.start (of_listed active walk.start passes) in
    let (is_active, of_session) = of_filter (λ a. same_session a.session n) pt.table.active a there in
    let same : a.session ≡ n = one_session a.session n of_session in
    let order : IsInOrder p pt.status pt.table a = active_in_order p birth g m upto pt.now (goes_on p birth m [] g upto.steps) a (is_in pt.table.active a is_active) in
    record {
      own = here;
      activation = a;
      is_active = is_in pt.table.active a is_active;
      of_session = same;
      of_owner = ap (λ o. unwrap_or o here.owner) (sym order.session_is_its_users ∙ ap (owner_of pt.table) same ∙ here.is_open);
      of_role = sym of_role;
      is_earned = earned p birth m g upto a is_active;
      lends = record { end = least.is_walk.end; leads = least.is_walk.leads; granted = least.is_walk.reaches };
    }
