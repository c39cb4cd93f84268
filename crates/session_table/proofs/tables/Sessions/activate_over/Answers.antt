use Rattle.std.proofs.Common.{◌≡◌, ◌<◌, length, map, [], ◌∷◌, ◌++◌, sym, ap, subst, ◌∙◌}
use Rattle.gt_base.specs.Sets.{has}
use Rattle.gt_base.specs.declared.requests.Request.TheVariants.{Activate}
use Rattle.gt_base.specs.declared.requests.Reply.TheVariants.{Active}
use Rattle.gtrbac_model.specs.Sessions.{Table, owner_of}
use Rattle.session_table.specs.Causes.{StandsAt}
use Rattle.session_table.specs.Charges.{charged_in}
use Rattle.session_table.specs.Kept.{AreKeptRows, IsTable}
use Rattle.session_table.specs.Opened.{opened, NumberedFrom}
use Rattle.session_table.specs.Permits.{rows_table}
use Rattle.session_table.specs.Replies.{AnswersAt, OrRefused}
use Rattle.session_table.specs.Tables.{table_of}
use Rattle.session_table.proofs.Entering.{activation, entered_is}
use Rattle.session_table.proofs.Permitting.{enters, stay_open}
use Rattle.session_table.proofs.Telling.{same_table}
use Rattle.session_table.proofs.tables.Sessions.activate_over.Goals as goal

pub returns-in-Err-clause-refused : goal.returns-in-Err-clause-refused
returns-in-Err-clause-refused c =
    let same : rows_table c.deref.result.now c.self.inside.active.items c.self.inside.charges.charged c.self.inside.begun ≡ table_of c.args.self.now =
    ap (λ os. rows_table os c.self.inside.active.items c.self.inside.charges.charged c.self.inside.begun) c.deref.ensures.value ∙ ap table_of c.self.view_is in
    subst (λ tb. OrRefused c.in-Err.fault (AnswersAt c.args.hierarchy.now c.args.caps.now.items (has c.args.status.now.set) c.args.now tb c.args.actor (Activate c.args.session c.args.role))) same
    (c.in-Err.ensures.err c.self.inside.begun)

pub invariant_of-self-2 : goal.invariant_of-self-2
invariant_of-self-2 c =
    let stands : StandsAt c.self.inside.sessions.items c.args.session c.in-Ok.permit.0 = subst (λ os. StandsAt os c.args.session c.in-Ok.permit.0) c.deref.ensures.value c.in-Ok.ensures.ok.stands in
    subst (λ xs. IsTable c.enter.new.sessions.items c.self.inside.standing xs c.self.inside.charges.charged c.self.inside.charged_to c.self.inside.begun) (sym c.in-Ok-enter.ensures.active)
    (enters c.self.inside.sessions.items c.enter.new.sessions.items c.args.session c.in-Ok.permit.0 stands c.args.role c.in-Ok-enter.ensures.sessions
    c.self.inside.standing c.self.inside.active.items c.self.inside.charges.charged c.self.inside.charged_to c.self.inside.begun c.self.invariant c.in-Ok.permit.1 c.args.now c.in-Ok.ensures.ok.fresh)

pub returns-clause-answer : goal.returns-clause-answer
returns-clause-answer c =
    let same : rows_table c.deref.result.now c.self.inside.active.items c.self.inside.charges.charged c.self.inside.begun ≡ table_of c.args.self.now =
    ap (λ os. rows_table os c.self.inside.active.items c.self.inside.charges.charged c.self.inside.begun) c.deref.ensures.value ∙ ap table_of c.self.view_is in
    subst (λ tb. AnswersAt c.args.hierarchy.now c.args.caps.now.items (has c.args.status.now.set) c.args.now tb c.args.actor (Activate c.args.session c.args.role) (Active c.in-Ok.permit.2)) same
    (c.in-Ok.ensures.ok.answer c.self.inside.begun)

pub returns-clause-table : goal.returns-clause-table
returns-clause-table c =
    let tv : Table = table_of c.args.self.now in
    let stands : StandsAt c.self.inside.sessions.items c.args.session c.in-Ok.permit.0 = subst (λ os. StandsAt os c.args.session c.in-Ok.permit.0) c.deref.ensures.value c.in-Ok.ensures.ok.stands in
    let same : rows_table c.deref.result.now c.self.inside.active.items c.self.inside.charges.charged c.self.inside.begun ≡ table_of c.args.self.now =
    ap (λ os. rows_table os c.self.inside.active.items c.self.inside.charges.charged c.self.inside.begun) c.deref.ensures.value ∙ ap table_of c.self.view_is in
    entered_is c.args.now c.args.session c.args.role tv c.args.actor c.in-Ok.permit.2 c.in-Ok.permit.1
    (ap (λ tb. owner_of tb c.args.session) (sym same) ∙ c.in-Ok.ensures.ok.owner (rows_table c.deref.result.now c.self.inside.active.items c.self.inside.charges.charged c.self.inside.begun))
    ∙ same_table _ _
    (ap (λ v. v.sessions) (sym c.self.view_is) ∙ sym (stay_open c.self.inside.sessions.items c.enter.new.sessions.items c.args.session c.in-Ok.permit.0 stands c.args.role c.in-Ok-enter.ensures.sessions))
    (ap (λ v. v.active ++ activation c.args.session c.in-Ok.permit.1 c.args.role c.args.now ∷ []) (sym c.self.view_is) ∙ sym c.in-Ok-enter.ensures.active)
    (ap (λ v. charged_in v.charges) (sym c.self.view_is))
    (ap (λ v. v.begun) (sym c.self.view_is))
    (ap (λ x. x ∷ []) (sym c.signal_of.ensures))

pub permitted-requires-clause-numbered : goal.permitted-requires-clause-numbered
permitted-requires-clause-numbered c = (c.self.inside.begun, subst (λ os. NumberedFrom 0 (map opened os) c.self.inside.begun) (sym c.deref.ensures.value) c.self.invariant.numbered)

pub permitted-requires-clause-kept : goal.permitted-requires-clause-kept
permitted-requires-clause-kept c = (
  c.self.inside.charged_to,
  subst (λ os. AreKeptRows os c.self.inside.active.items c.self.inside.charges.charged c.self.inside.charged_to) (sym c.deref.ensures.value) c.self.invariant.kept,
)

pub enter-requires : goal.enter-requires
enter-requires c = subst (λ os. c.in-Ok.permit.0 < length os) c.deref.ensures.value c.in-Ok.ensures.ok.stands.inside

pub invariant_of-self : goal.invariant_of-self
invariant_of-self c =
    subst (λ os. IsTable os c.self.inside.standing c.enter.new.active.items c.self.inside.charges.charged c.self.inside.charged_to c.self.inside.begun) (sym c.in-Err-enter.ensures.same)
    (subst (λ xs. IsTable c.self.inside.sessions.items c.self.inside.standing xs c.self.inside.charges.charged c.self.inside.charged_to c.self.inside.begun) (sym c.in-Err-enter.ensures.same_active) c.self.invariant)

pub returns-in-Err-enter-clause-same : goal.returns-in-Err-enter-clause-same
returns-in-Err-enter-clause-same c =
    ap (λ os. rows_table os c.enter.new.active.items c.self.inside.charges.charged c.self.inside.begun) c.in-Err-enter.ensures.same
    ∙ ap (λ xs. rows_table c.self.inside.sessions.items xs c.self.inside.charges.charged c.self.inside.begun) c.in-Err-enter.ensures.same_active
    ∙ ap table_of c.self.view_is
