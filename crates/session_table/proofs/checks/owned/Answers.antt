use Rattle.std.proofs.Common.{cond, ap, ◌∙◌, Some, None}
use Rattle.gt_base.specs.declared.requests.Refusal.TheVariants.{NotYours}
use Rattle.session_table.proofs.Finding.{no_session, foreign}
use Rattle.session_table.proofs.checks.owned.Goals as goal

pub returns-in_default-clause-err : goal.returns-in_default-clause-err
returns-in_default-clause-err c = λ tb. no_session c.args.sessions.now c.args.session c.in_default.ensures c.args.actor tb

pub returns-then-is_foreign-clause-err : goal.returns-then-is_foreign-clause-err
returns-then-is_foreign-clause-err c = λ tb.
    foreign c.args.sessions.now c.args.session c.in-Some.at c.owner_at.result c.args.actor c.in-Some.ensures c.owner_at.ensures c.is_foreign.result c.is_foreign.ensures tb
    ∙ ap (λ b. cond b (Some NotYours) None) c.if-is_foreign.true

pub returns-clause-ok : goal.returns-clause-ok
returns-clause-ok c = λ tb.
    foreign c.args.sessions.now c.args.session c.in-Some.at c.owner_at.result c.args.actor c.in-Some.ensures c.owner_at.ensures c.is_foreign.result c.is_foreign.ensures tb
    ∙ ap (λ b. cond b (Some NotYours) None) c.if-is_foreign.false
