use Rattle.std.proofs.Common.{◌≡◌, ◌++◌, false, not, List, map, filter, Some, None, IfSome, sym, ap, subst, ◌∙◌, arith}
use Rattle.std.specs.List.{slice_get}
use Rattle.gt_base.specs.Sets.{members}
use Rattle.gt_base.specs.declared.requests.Reply.TheVariants.{Done}
use Rattle.gtrbac_model.specs.Same.{same_session}
use Rattle.gtrbac_model.specs.Sessions.{signal_of}
use Rattle.gtrbac_model.specs.Reply.{session_causes}
use Rattle.session_table.specs.declared.opened.Open.{Open}
use Rattle.session_table.specs.Opened.{numbered, opened, still_open, in_session, NumberedFrom}
use Rattle.session_table.specs.Causes.{StandsAt}
use Rattle.session_table.specs.Charges.{charged_in}
use Rattle.session_table.specs.Tables.{table_of}
use Rattle.session_table.proofs.Answering.{unless_none, unless_some}
use Rattle.session_table.proofs.Ending.{few_in}
use Rattle.session_table.proofs.Keeping.{finished, without_gaps, with_gaps, sum_open}
use Rattle.session_table.proofs.Indexing.{shut_opened}
use Rattle.session_table.proofs.Telling.{same_table, causes}
use Rattle.session_table.proofs.tables.Sessions.finish.Goals as goal

pub owned-requires : goal.owned-requires
owned-requires c = rw c.deref.ensures.value (c.self.inside.begun, c.self.invariant.numbered)

pub returns-in-Err-clause-refused : goal.returns-in-Err-clause-refused
returns-in-Err-clause-refused c = λ p pt.
    unless_some (session_causes (table_of c.args.self.now) c.args.actor c.args.session) Done c.in-Err.refusal
    (causes c.args.self.now c.deref.result.now (ap (λ os. map opened (still_open os)) c.deref.ensures.value ∙ ap (λ v. v.sessions) c.self.view_is) c.args.actor c.args.session (Some c.in-Err.refusal) c.in-Err.ensures.err)

pub end_session-requires-clause-few : goal.end_session-requires-clause-few
end_session-requires-clause-few c =
    let stands : StandsAt c.self.inside.sessions.items c.args.session c.in-Ok.at = subst (λ os. StandsAt os c.args.session c.in-Ok.at) c.deref.ensures.value c.in-Ok.ensures.place in
    let told : IfSome (slice_get c.self.inside.sessions.items c.in-Ok.at) (λ o. c.roles_at-most.result.now ≡ members o.roles) =
    subst (λ os. IfSome (slice_get os c.in-Ok.at) (λ o. c.roles_at-most.result.now ≡ members o.roles)) c.deref-2.ensures.value c.roles_at-most.ensures.roles in
    few_in c.self.inside.sessions.items c.self.inside.active.items c.self.inside.charges.charged c.self.inside.charged_to c.self.invariant.kept c.args.session c.in-Ok.at stands c.roles_at-most.result.now told

pub shut-requires-clause-numbered : goal.shut-requires-clause-numbered
shut-requires-clause-numbered c = (c.self.inside.begun, c.self.invariant.numbered)

pub invariant_of-self : goal.invariant_of-self
invariant_of-self c =
    let os : List Open = c.self.inside.sessions.items in
    let stands : StandsAt os c.args.session c.in-Ok.at = subst (λ os. StandsAt os c.args.session c.in-Ok.at) c.deref.ensures.value c.in-Ok.ensures.place in
    let left : still_open c.close_up.new.sessions.items ≡ filter (λ o. not (numbered c.args.session o)) (still_open os) = c.close_up.ensures.standing ∙ c.shut.ensures.standing c.args.session stands in
    record {
      kept = with_gaps c.close_up.new.sessions.items c.end_session.new.active.items c.self.inside.charges.charged c.self.inside.charged_to
          (rw (left, c.end_session.ensures.active) (finished _ _ _ _ (without_gaps _ _ _ _ c.self.invariant.kept) c.args.session));
      counted = let one = c.shut.ensures.count c.args.session stands in
          let all = sum_open c.close_up.new.sessions.items c.shut.new.sessions.items c.close_up.ensures.standing in
          omega (arith, one, all, c.self.invariant.counted);
      numbered = c.close_up.ensures.numbered c.self.inside.begun (subst (λ ss. NumberedFrom 0 ss c.self.inside.begun) (sym c.shut.ensures.opened) c.self.invariant.numbered);
    }

pub returns-clause-answer : goal.returns-clause-answer
returns-clause-answer c = λ p pt.
    unless_none (session_causes (table_of c.args.self.now) c.args.actor c.args.session) Done
    (causes c.args.self.now c.deref.result.now (ap (λ os. map opened (still_open os)) c.deref.ensures.value ∙ ap (λ v. v.sessions) c.self.view_is) c.args.actor c.args.session None c.in-Ok.ensures.ok)

pub returns-clause-table : goal.returns-clause-table
returns-clause-table c =
    let os : List Open = c.self.inside.sessions.items in
    let stands : StandsAt os c.args.session c.in-Ok.at = subst (λ os. StandsAt os c.args.session c.in-Ok.at) c.deref.ensures.value c.in-Ok.ensures.place in
    let left : still_open c.close_up.new.sessions.items ≡ filter (λ o. not (numbered c.args.session o)) (still_open os) = c.close_up.ensures.standing ∙ c.shut.ensures.standing c.args.session stands in
    same_table _ _
    (ap (λ v. filter (λ o. not (same_session o.number c.args.session)) v.sessions) (sym c.self.view_is) ∙ sym (shut_opened os c.args.session) ∙ ap (map opened) (sym left))
    (ap (λ v. filter (λ a. not (in_session c.args.session a)) v.active) (sym c.self.view_is) ∙ sym c.end_session.ensures.active)
    (ap (λ v. charged_in v.charges) (sym c.self.view_is))
    (ap (λ v. v.begun) (sym c.self.view_is))
    (ap (λ v. map (signal_of false) (filter (in_session c.args.session) v.active)) (sym c.self.view_is)
    ∙ ap (λ ss. ss ++ map (signal_of false) (filter (in_session c.args.session) c.self.inside.active.items)) (sym c.in_ok-signals.ensures.items)
    ∙ sym c.end_session.ensures.signals ∙ sym c.from.ensures)
