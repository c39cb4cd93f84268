use Rattle.std.proofs.Common.{◌≡◌, ℕ, sym, ap, ◌∙◌}
use Rattle.gt_base.specs.Sets.{has}
use Rattle.gt_base.specs.declared.requests.Reply.{Reply}
use Rattle.gt_base.specs.declared.requests.Reply.TheVariants.{Active}
use Rattle.gt_base.specs.declared.requests.Request.TheVariants.{Activate}
use Rattle.gtrbac_model.specs.Reply.{answer}
use Rattle.gtrbac_model.specs.Sessions.{applied}
use Rattle.session_table.specs.Replies.{AnswersAt, OrRefused}
use Rattle.session_table.specs.Tables.{table_of}
use Rattle.session_table.specs.declared.faults.SessionFault.{SessionFault}
use Rattle.session_table.specs.declared.faults.SessionFault.TheVariants.{Refused, Memory}
use Rattle.policy_words.specs.Naming.{NamedPolicy}
use Rattle.std.proofs.lemmas.Result.{IfOk-weaker, MatchResult-weaker}
use Rattle.core_machine.specs.Coherent.{point_of}
use Rattle.core_machine.proofs.Raising.{at_here}
use Rattle.core_machine.proofs.sessions.start.Goals as goal
use Rattle.core_machine.proofs.sessions.start.Goals.{After-activate_over}

here : (c : After-activate_over) (reply : Reply) → AnswersAt c.hierarchy.result.now c.caps.result.now.items (has c.status-status.result.now.set) c.now-now.result (table_of c.args.table.now) c.args.actor (Activate c.args.session c.args.role) reply
    → answer c.args.ground.now.policy (point_of c.args.line.now.line (table_of c.args.table.now)) c.args.actor (Activate c.args.session c.args.role) ≡ reply
here c reply answers =
    at_here c.args.ground.now.policy c.args.line.now.line (table_of c.args.table.now) c.args.actor (Activate c.args.session c.args.role) reply
    c.hierarchy.result.now c.caps.result.now.items c.status-status.result.now.set c.now-now.result
    c.hierarchy.ensures (c.caps.ensures ∙ ap (λ (g : NamedPolicy). g.policy.caps) c.policy-policy.ensures) c.status-status.ensures c.now-now.ensures answers

or_refused : (fault : SessionFault) (P Q : Reply → Type 0) → ((r : Reply) → P r → Q r) → OrRefused fault P → OrRefused fault Q
or_refused (Refused r) P Q h a = h _ a
or_refused Memory P Q h a = tt

pub returns-clause-answer : goal.returns-clause-answer
returns-clause-answer c = IfOk-weaker c.activate_over.result _ _ (λ r a. here c (Active r.0) a) c.activate_over.ensures.answer

pub returns-clause-table : goal.returns-clause-table
returns-clause-table c =
    IfOk-weaker c.activate_over.result _ _
    (λ r a. ap (λ (t : ℕ). applied t c.args.actor (Activate c.args.session c.args.role) (Active r.0) (table_of c.args.table.now)) (sym c.now-now.ensures) ∙ a) c.activate_over.ensures.table

pub returns-clause-refused : goal.returns-clause-refused
returns-clause-refused c =
    MatchResult-weaker c.activate_over.result c.activate_over.ensures.refused (λ r a. tt) (λ fault a. or_refused fault _ _ (λ reply b. here c reply b) a)
