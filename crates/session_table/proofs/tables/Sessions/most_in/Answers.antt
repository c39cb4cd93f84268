use Rattle.std.proofs.Common.{◌≡◌, ◌≤◌, length, find, count_by, None, IfSome, sym, ap, subst, ◌∙◌}
use Rattle.std.specs.List.{slice_get}
use Rattle.gt_base.specs.Sets.{members}
use Rattle.session_table.specs.Opened.{numbered, in_session}
use Rattle.session_table.specs.Causes.{StandsAt}
use Rattle.session_table.specs.Tables.{TableView}
use Rattle.session_table.proofs.Ending.{few_in, none_in}
use Rattle.session_table.proofs.tables.Sessions.most_in.Goals as goal

pub place-requires : goal.place-requires
place-requires c = rw c.deref.ensures.value (c.self.inside.begun, c.self.invariant.numbered)

pub returns-in-Some : goal.returns-in-Some
returns-in-Some c =
    let stands : StandsAt c.self.inside.sessions.items c.args.session c.in-Some.at = subst (λ os. StandsAt os c.args.session c.in-Some.at) c.deref.ensures.value c.in-Some.ensures in
    let told : IfSome (slice_get c.self.inside.sessions.items c.in-Some.at) (λ o. c.roles_at.result.now ≡ members o.roles) =
    subst (λ os. IfSome (slice_get os c.in-Some.at) (λ o. c.roles_at.result.now ≡ members o.roles)) c.deref-in-Some.ensures.value c.roles_at.ensures.roles in
    let few : count_by (in_session c.args.session) c.self.inside.active.items ≤ length c.roles_at.result.now =
    few_in c.self.inside.sessions.items c.self.inside.active.items c.self.inside.charges.charged c.self.inside.charged_to c.self.invariant.kept c.args.session c.in-Some.at stands c.roles_at.result.now told in
    subst (λ (v : TableView). count_by (in_session c.args.session) v.active ≤ length c.roles_at.result.now) c.self.view_is few

pub returns-in-None : goal.returns-in-None
returns-in-None c =
    let gone : find (numbered c.args.session) c.self.inside.sessions.items ≡ None = ap (find (numbered c.args.session)) (sym c.deref.ensures.value) ∙ c.in-None.ensures in
    subst (λ (v : TableView). count_by (in_session c.args.session) v.active ≤ 0) c.self.view_is
    (none_in c.self.inside.sessions.items c.self.inside.active.items c.self.inside.charges.charged c.self.inside.charged_to c.self.invariant.kept c.args.session gone)
