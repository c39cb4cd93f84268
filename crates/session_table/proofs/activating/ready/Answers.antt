use Rattle.std.proofs.Common.{ap, sym, ◌∙◌}
use Rattle.gt_base.specs.Sets.{has}
use Rattle.gtrbac_model.specs.Conflict.{Status}
use Rattle.gtrbac_model.specs.Reply.{session_causes}
use Rattle.session_table.specs.Causes.{first_cause, with_sessions, early_causes}
use Rattle.session_table.specs.Opened.{role_in}
use Rattle.session_table.proofs.Answering.{first_of_front, first_of_rest}
use Rattle.session_table.proofs.Finding.{owner_at}
use Rattle.session_table.proofs.Telling.{role_at}
use Rattle.session_table.proofs.activating.ready.Goals as goal

pub returns-in-Err-clause-err : goal.returns-in-Err-clause-err
returns-in-Err-clause-err c = λ tb.
    first_of_front (session_causes (with_sessions c.args.sessions.now tb) c.args.actor c.args.session) (early_causes (has c.args.status.now.set) (role_in c.args.sessions.now c.args.session c.args.role) c.args.role)
    c.in-Err.refusal (c.in-Err.ensures.err tb)

pub returns-in-Some-clause-err : goal.returns-in-Some-clause-err
returns-in-Some-clause-err c = λ tb.
    let s : Status = has c.args.status.now.set in
    first_of_rest (session_causes (with_sessions c.args.sessions.now tb) c.args.actor c.args.session) (early_causes s (role_in c.args.sessions.now c.args.session c.args.role) c.args.role) (c.in-Ok.ensures.ok tb)
    ∙ ap (λ b. first_cause (early_causes s b c.args.role)) (sym (role_at c.args.sessions.now c.args.session c.in-Ok.at c.in-Ok.ensures.place c.args.role c.has_role.result c.has_role.ensures))
    ∙ sym c.early_refusal.ensures ∙ c.in-Some.is

pub returns-in-None-clause-ok : goal.returns-in-None-clause-ok
returns-in-None-clause-ok c =
    let s : Status = has c.args.status.now.set in
    record {
      stands = c.in-Ok.ensures.place;
      owner = owner_at c.args.sessions.now c.args.session c.in-Ok.at c.owner_at.result c.in-Ok.ensures.place c.owner_at.ensures;
      may = c.in-Ok.ensures.ok;
      early = ap (λ b. first_cause (early_causes s b c.args.role)) (sym (role_at c.args.sessions.now c.args.session c.in-Ok.at c.in-Ok.ensures.place c.args.role c.has_role.result c.has_role.ensures))
          ∙ sym c.early_refusal.ensures ∙ c.in-None.is;
    }
