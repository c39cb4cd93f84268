use Rattle.std.proofs.Common.{ap, ◌∙◌}
use Rattle.session_table.specs.Opened.{role_in}
use Rattle.session_table.proofs.Telling.{role_at}
use Rattle.session_table.proofs.dropping.is_listed.Goals as goal

pub returns-in-Some : goal.returns-in-Some
returns-in-Some c =
    role_at c.args.sessions.now c.a.inside.session c.in-Some.at c.in-Some.ensures c.a.inside.role c.has_role.result c.has_role.ensures
    ∙ ap (λ a. role_in c.args.sessions.now a.session a.role) c.a.view_is
