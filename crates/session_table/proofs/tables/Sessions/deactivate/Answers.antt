use Rattle.std.proofs.Common.{◌≡◌, true, false, not, set, [], ◌∷◌, map, filter, find, count_by, Some, None, IfSome, refl, sym, ap, subst, ◌∙◌}
use Rattle.std.specs.List.{list_any}
use Rattle.gt_base.specs.Sets.{without}
use Rattle.gt_base.specs.declared.requests.Reply.TheVariants.{Done}
use Rattle.gt_base.specs.declared.requests.Refusal.TheVariants.{NotActive}
use Rattle.gtrbac_model.specs.Sessions.{is_active_in, signal_of}
use Rattle.gtrbac_model.specs.Reply.{session_causes, unless}
use Rattle.session_table.specs.declared.opened.Open.{Open}
use Rattle.session_table.specs.Opened.{opened, still_open, NumberedFrom}
use Rattle.session_table.specs.Causes.{StandsAt}
use Rattle.session_table.specs.Charges.{charged_in}
use Rattle.session_table.specs.Tables.{table_of}
use Rattle.session_table.proofs.Answering.{front_none, front_some}
use Rattle.session_table.proofs.Keeping.{as_many_open, ended}
use Rattle.session_table.proofs.Indexing.{kept_opened, kept_open}
use Rattle.session_table.proofs.Finding.{inside}
use Rattle.session_table.proofs.Telling.{same_table, causes, not_found, is_found, only_one}
use Rattle.session_table.proofs.tables.Sessions.deactivate.Goals as goal

pub owned-requires : goal.owned-requires
owned-requires c = rw c.deref.ensures.value (c.self.inside.begun, c.self.invariant.numbered)

pub returns-in-Err-clause-refused : goal.returns-in-Err-clause-refused
returns-in-Err-clause-refused c = λ p pt.
    front_some (session_causes (table_of c.args.self.now) c.args.actor c.args.session)
    ((not (list_any (is_active_in c.args.session c.args.role) c.args.self.now.active), NotActive) ∷ []) Done c.in-Err.refusal
    (causes c.args.self.now c.deref.result.now (ap (λ os. map opened (still_open os)) c.deref.ensures.value ∙ ap (λ v. v.sessions) c.self.view_is) c.args.actor c.args.session (Some c.in-Err.refusal) c.in-Err.ensures.err)

pub returns-in_default-clause-refused : goal.returns-in_default-clause-refused
returns-in_default-clause-refused c = λ p pt.
    let none : list_any (is_active_in c.args.session c.args.role) c.args.self.now.active ≡ false =
    not_found (is_active_in c.args.session c.args.role) c.args.self.now.active
    (ap (λ v. find (is_active_in c.args.session c.args.role) v.active) (sym c.self.view_is)
    ∙ ap (find (is_active_in c.args.session c.args.role)) (sym c.as_slice.ensures) ∙ sym c.find_active.ensures ∙ c.in_default.is) in
    front_none (session_causes (table_of c.args.self.now) c.args.actor c.args.session)
    ((not (list_any (is_active_in c.args.session c.args.role) c.args.self.now.active), NotActive) ∷ []) Done
    (causes c.args.self.now c.deref.result.now (ap (λ os. map opened (still_open os)) c.deref.ensures.value ∙ ap (λ v. v.sessions) c.self.view_is) c.args.actor c.args.session None c.in-Ok.ensures.ok)
    ∙ ap (λ b. unless ((not b, NotActive) ∷ []) Done) none

pub invariant_of-self : goal.invariant_of-self
invariant_of-self c =
    let stands : StandsAt c.self.inside.sessions.items c.args.session c.in-Ok.at = subst (λ os. StandsAt os c.args.session c.in-Ok.at) c.deref.ensures.value c.in-Ok.ensures.place in
    let (o, there) = inside c.self.inside.sessions.items c.in-Ok.at stands.inside in
    let new : c.remove_role.new.sessions.items ≡ set c.self.inside.sessions.items c.in-Ok.at (record o { roles = without o.roles c.args.role }) =
    subst (λ x. IfSome x (λ (o : Open). c.remove_role.new.sessions.items ≡ set c.self.inside.sessions.items c.in-Ok.at (record o { roles = without o.roles c.args.role }))) there c.remove_role.ensures in
    record {
      kept = rw (new, c.end_role.ensures) (ended c.self.inside.sessions.items c.self.inside.active.items c.self.inside.charges.charged c.self.inside.charged_to c.self.invariant.kept c.args.session c.in-Ok.at stands o there c.args.role);
      counted = c.self.invariant.counted ∙ sym (as_many_open c.self.inside.sessions.items c.in-Ok.at o _ there refl) ∙ ap (count_by (λ (o : Open). o.is_open)) (sym new);
      numbered = subst (λ ss. NumberedFrom 0 ss c.self.inside.begun)
          (sym (ap (map opened) new ∙ kept_opened c.self.inside.sessions.items c.in-Ok.at o (record o { roles = without o.roles c.args.role }) there refl)) c.self.invariant.numbered;
    }

pub returns-clause-answer : goal.returns-clause-answer
returns-clause-answer c = λ p pt.
    let some : list_any (is_active_in c.args.session c.args.role) c.args.self.now.active ≡ true =
    is_found (is_active_in c.args.session c.args.role) c.args.self.now.active c.in-Some.activation
    (ap (λ v. find (is_active_in c.args.session c.args.role) v.active) (sym c.self.view_is)
    ∙ ap (find (is_active_in c.args.session c.args.role)) (sym c.as_slice.ensures) ∙ sym c.find_active.ensures ∙ c.in-Some.is) in
    front_none (session_causes (table_of c.args.self.now) c.args.actor c.args.session)
    ((not (list_any (is_active_in c.args.session c.args.role) c.args.self.now.active), NotActive) ∷ []) Done
    (causes c.args.self.now c.deref.result.now (ap (λ os. map opened (still_open os)) c.deref.ensures.value ∙ ap (λ v. v.sessions) c.self.view_is) c.args.actor c.args.session None c.in-Ok.ensures.ok)
    ∙ ap (λ b. unless ((not b, NotActive) ∷ []) Done) some

pub returns-clause-table : goal.returns-clause-table
returns-clause-table c =
    let stands : StandsAt c.self.inside.sessions.items c.args.session c.in-Ok.at = subst (λ os. StandsAt os c.args.session c.in-Ok.at) c.deref.ensures.value c.in-Ok.ensures.place in
    let (o, there) = inside c.self.inside.sessions.items c.in-Ok.at stands.inside in
    let new : c.remove_role.new.sessions.items ≡ set c.self.inside.sessions.items c.in-Ok.at (record o { roles = without o.roles c.args.role }) =
    subst (λ x. IfSome x (λ (o : Open). c.remove_role.new.sessions.items ≡ set c.self.inside.sessions.items c.in-Ok.at (record o { roles = without o.roles c.args.role }))) there c.remove_role.ensures in
    let one : find (is_active_in c.args.session c.args.role) c.self.inside.active.items ≡ Some c.in-Some.activation =
    ap (find (is_active_in c.args.session c.args.role)) (sym c.as_slice.ensures) ∙ sym c.find_active.ensures ∙ c.in-Some.is in
    same_table _ _
    (ap (λ v. v.sessions) (sym c.self.view_is) ∙ sym (kept_open c.self.inside.sessions.items c.in-Ok.at o (record o { roles = without o.roles c.args.role }) there refl refl) ∙ ap (λ os. map opened (still_open os)) (sym new))
    (ap (λ v. filter (λ a. not (is_active_in c.args.session c.args.role a)) v.active) (sym c.self.view_is) ∙ sym c.end_role.ensures)
    (ap (λ v. charged_in v.charges) (sym c.self.view_is))
    (ap (λ v. v.begun) (sym c.self.view_is))
    (ap (λ v. map (signal_of false) (filter (is_active_in c.args.session c.args.role) v.active)) (sym c.self.view_is)
    ∙ ap (map (signal_of false)) (only_one (is_active_in c.args.session c.args.role) c.self.inside.active.items c.in-Some.activation one (c.self.invariant.kept.once c.args.session c.args.role))
    ∙ ap (λ s. s ∷ []) (sym c.signal_of.ensures))
