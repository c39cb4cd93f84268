-- An answered check has the decision of the definitions; where that is a denial, it is right.
use Rattle.std.proofs.Common.{◌≡◌, ◌<◌, [], ◌∷◌, filter, refl, ap, arith}
use Rattle.gt_base.specs.declared.events.RoleId.{RoleId}
use Rattle.gt_base.specs.declared.events.SessionId.{SessionId}
use Rattle.gt_base.specs.declared.events.PermId.{PermId}
use Rattle.gt_base.specs.declared.requests.Actor.{Actor}
use Rattle.gt_base.specs.declared.requests.Decision.{Decision}
use Rattle.gt_base.specs.declared.requests.Request.TheVariants.{Check}
use Rattle.gt_base.specs.declared.requests.Reply.{Reply}
use Rattle.gt_base.specs.declared.requests.Reply.TheVariants.{Decided}
use Rattle.gt_base.specs.declared.requests.Entry.{Entry}
use Rattle.gt_base.specs.Machines.{asked}
use Rattle.gtrbac_model.specs.Policy.{Policy}
use Rattle.gtrbac_model.specs.Same.{same_session}
use Rattle.gtrbac_model.specs.Sessions.{Activation}
use Rattle.gtrbac_model.specs.Decision.{decide}
use Rattle.gtrbac_model.specs.Reply.{Point, actor_causes, session_causes, answer, reply_of, roles_of}
use Rattle.gtrbac_model.specs.History.{AreLegalAfter, point_after}
use Rattle.history_laws.proofs.Members.{is_in, of_map, of_filter}
use Rattle.history_laws.proofs.NamedPoints.{points_are_named}
use Rattle.history_laws.proofs.Lasting.{steps_after}
use Rattle.audit_laws.specs.Denials.{DenialsAreRight}
use Rattle.audit_laws.proofs.Answered.{passed}
use Rattle.audit_laws.proofs.Denying.{right_denial}

abbrev decision_in : Decision → Reply → Decision
decision_in d (Decided e) = e
decision_in d _ = d

-- the decision is that of the definitions
pub checked : (p : Policy) (pt : Point) (actor : Actor) (n : SessionId) (perm : PermId) (d : Decision) → Decided d ≡ reply_of p pt actor (Check n perm) → d ≡ decide p.edges pt.status (roles_of pt.table n) perm
checked p pt actor n perm d e =
    let a = passed (actor_causes actor) (Decided d) (answer p pt actor (Check n perm)) refl e in
    let b = passed (session_causes pt.table actor n) (Decided d) (Decided (decide p.edges pt.status (roles_of pt.table n) perm)) refl a.is in
    ap (decision_in d) b.is

pub denials_are_right : DenialsAreRight
denials_are_right p birth m g h who actor n perm d good since named legal not_permit =
    let e : Entry = asked who actor (Check n perm) (Decided d) in
    let steps : AreLegalAfter p birth m g (e ∷ h) = steps_after p birth m [] g (e ∷ h) legal.steps in
    let pt : Point = point_after p birth m g in
    let point = points_are_named p birth g (e ∷ h) m good since named legal in
    right_denial p.edges pt.status perm (roles_of pt.table n)
    (λ r there.
    let (a, among, same) = of_map (λ (a : Activation). a.role) (filter (λ a. same_session a.session n) pt.table.active) r there in
    let (was, of_session) = of_filter (λ a. same_session a.session n) pt.table.active a among in
    let low : a.role.0 < p.roles = point.active a (is_in pt.table.active a was) in
    omega (arith, low, good.roles, ap (λ (r : RoleId). r.0) same))
    d not_permit (checked p pt actor n perm d steps.0)
