use Rattle.std.proofs.Common.{◌≡◌, List, set, [], ◌∷◌, ◌++◌, IfSome, ap, subst, ◌∙◌}
use Rattle.std.specs.List.{slice_get}
use Rattle.gt_base.specs.Sets.{with_member}
use Rattle.gtrbac_model.specs.Sessions.{Activation}
use Rattle.session_table.specs.declared.opened.Open.{Open}
use Rattle.session_table.proofs.activating.enter.Goals as goal

pub returns-clause-sessions : goal.returns-clause-sessions
returns-clause-sessions c =
    let os : List Open = c.args.sessions.now.items in
    subst (λ (a : Activation). IfSome (slice_get os c.args.at) (λ (o : Open). c.add_role.new.sessions.items ≡ set os c.args.at (record o { roles = with_member o.roles a.role }))) c.a.view_is c.in_ok-add_role.ensures.ok

pub returns-clause-active : goal.returns-clause-active
returns-clause-active c = c.push.ensures ∙ ap (λ xs. xs ++ c.args.a ∷ []) c.in_ok-reserve_one.ensures.items
