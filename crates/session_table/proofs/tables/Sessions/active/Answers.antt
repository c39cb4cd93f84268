use Rattle.std.proofs.Common.{◌≡◌, map, Some, None, IfSome, sym, ap, subst, ◌∙◌}
use Rattle.std.specs.List.{slice_get, list_any}
use Rattle.gt_base.specs.Sets.{members}
use Rattle.gt_base.specs.declared.requests.Reply.TheVariants.{Truth, Decided}
use Rattle.gtrbac_model.specs.Decision.{decide}
use Rattle.gtrbac_model.specs.Sessions.{is_active_in}
use Rattle.gtrbac_model.specs.Reply.{session_causes, roles_of}
use Rattle.decision_reason.proofs.OfMembers.{roles_decide}
use Rattle.session_table.specs.Opened.{opened, still_open}
use Rattle.session_table.specs.Causes.{StandsAt}
use Rattle.session_table.specs.Tables.{table_of}
use Rattle.session_table.proofs.Answering.{unless_none, unless_some}
use Rattle.session_table.proofs.Telling.{causes, listed_at, roles_listed}
use Rattle.session_table.proofs.tables.Sessions.active.Goals as goal

pub owned-requires : goal.owned-requires
owned-requires c = rw c.deref.ensures.value (c.self.inside.begun, c.self.invariant.numbered)

pub returns-in-Err-clause-refused : goal.returns-in-Err-clause-refused
returns-in-Err-clause-refused c = λ r p pt.
    unless_some (session_causes (table_of c.args.self.now) c.args.actor c.args.session) (Truth (list_any (is_active_in c.args.session r) c.args.self.now.active)) c.in-Err.refusal
    (causes c.args.self.now c.deref.result.now (ap (λ os. map opened (still_open os)) c.deref.ensures.value ∙ ap (λ v. v.sessions) c.self.view_is) c.args.actor c.args.session (Some c.in-Err.refusal) c.in-Err.ensures.err)

pub returns-in-Err-clause-refused_check : goal.returns-in-Err-clause-refused_check
returns-in-Err-clause-refused_check c = λ perm p pt.
    unless_some (session_causes (table_of c.args.self.now) c.args.actor c.args.session) (Decided (decide p.edges pt.status (roles_of (table_of c.args.self.now) c.args.session) perm)) c.in-Err.refusal
    (causes c.args.self.now c.deref.result.now (ap (λ os. map opened (still_open os)) c.deref.ensures.value ∙ ap (λ v. v.sessions) c.self.view_is) c.args.actor c.args.session (Some c.in-Err.refusal) c.in-Err.ensures.err)

pub returns-in-Ok-clause-roles : goal.returns-in-Ok-clause-roles
returns-in-Ok-clause-roles c = λ r p pt.
    let stands : StandsAt c.self.inside.sessions.items c.args.session c.in-Ok.at = subst (λ os. StandsAt os c.args.session c.in-Ok.at) c.deref.ensures.value c.in-Ok.ensures.place in
    let told : IfSome (slice_get c.self.inside.sessions.items c.in-Ok.at) (λ o. c.roles_at.result.now ≡ members o.roles) =
    subst (λ os. IfSome (slice_get os c.in-Ok.at) (λ o. c.roles_at.result.now ≡ members o.roles)) c.deref-in-Ok.ensures.value c.roles_at.ensures.roles in
    unless_none (session_causes (table_of c.args.self.now) c.args.actor c.args.session) (Truth (list_any (is_active_in c.args.session r) c.args.self.now.active))
    (causes c.args.self.now c.deref.result.now (ap (λ os. map opened (still_open os)) c.deref.ensures.value ∙ ap (λ v. v.sessions) c.self.view_is) c.args.actor c.args.session None c.in-Ok.ensures.ok)
    ∙ ap Truth (ap (λ v. list_any (is_active_in c.args.session r) v.active) (sym c.self.view_is)
    ∙ sym (listed_at c.self.inside.sessions.items c.self.inside.active.items c.self.inside.charges.charged c.self.inside.charged_to c.self.invariant.kept c.args.session c.in-Ok.at stands c.roles_at.result.now told r))

pub returns-in-Ok-clause-check : goal.returns-in-Ok-clause-check
returns-in-Ok-clause-check c = λ perm p pt.
    let stands : StandsAt c.self.inside.sessions.items c.args.session c.in-Ok.at = subst (λ os. StandsAt os c.args.session c.in-Ok.at) c.deref.ensures.value c.in-Ok.ensures.place in
    let told : IfSome (slice_get c.self.inside.sessions.items c.in-Ok.at) (λ o. c.roles_at.result.now ≡ members o.roles) =
    subst (λ os. IfSome (slice_get os c.in-Ok.at) (λ o. c.roles_at.result.now ≡ members o.roles)) c.deref-in-Ok.ensures.value c.roles_at.ensures.roles in
    unless_none (session_causes (table_of c.args.self.now) c.args.actor c.args.session) (Decided (decide p.edges pt.status (roles_of (table_of c.args.self.now) c.args.session) perm))
    (causes c.args.self.now c.deref.result.now (ap (λ os. map opened (still_open os)) c.deref.ensures.value ∙ ap (λ v. v.sessions) c.self.view_is) c.args.actor c.args.session None c.in-Ok.ensures.ok)
    ∙ ap Decided (roles_decide p.edges pt.status (roles_of (table_of c.args.self.now) c.args.session) c.roles_at.result.now perm
    (λ r. roles_listed (table_of c.args.self.now) c.args.session r ∙ ap (λ v. list_any (is_active_in c.args.session r) v.active) (sym c.self.view_is)
    ∙ sym (listed_at c.self.inside.sessions.items c.self.inside.active.items c.self.inside.charges.charged c.self.inside.charged_to c.self.invariant.kept c.args.session c.in-Ok.at stands c.roles_at.result.now told r)))
