use Rattle.std.proofs.Common.{Bool, count_by, Some, None, refl, sym, ap, ◌∙◌}
use Rattle.std.proofs.lemmas.Bool.{eq-eqb}
use Rattle.gtrbac_model.specs.Sessions.{Activation}
use Rattle.session_table.specs.Opened.{role_in}
use Rattle.session_table.proofs.Counts.{kept_step, left_counted, own, still_counted}
use Rattle.session_table.specs.Counting.{counted, is_by}
use Rattle.session_table.proofs.counting.uncount_unlisted.Goals as goal
use Rattle.session_table.proofs.counting.uncount_unlisted.Goals.{then-not-is_listed, else-not-is_listed}

pub drop_count-requires-clause-own : goal.drop_count-requires-clause-own
drop_count-requires-clause-own c =
    let a : Activation = c.a-item.result in
    still_counted c.loop-a.counts.entries (λ (b : Activation). role_in c.args.sessions.now b.session b.role) c.args.active.now c.loop-a.a-index a c.loop-a-test.true c.a-item.is (sym c.is_listed.ensures ∙ c.if-not-is_listed.true) c.loop-a.invariant (record { user = Some a.user; role = a.role }) (own a)

pub drop_count-requires-clause-all : goal.drop_count-requires-clause-all
drop_count-requires-clause-all c =
    let a : Activation = c.a-item.result in
    still_counted c.loop-a.counts.entries (λ (b : Activation). role_in c.args.sessions.now b.session b.role) c.args.active.now c.loop-a.a-index a c.loop-a-test.true c.a-item.is (sym c.is_listed.ensures ∙ c.if-not-is_listed.true) c.loop-a.invariant (record { user = None; role = a.role }) (eq-eqb a.role.0 a.role.0 refl)

pub loop-a-preserved : goal.loop-a-preserved
loop-a-preserved c = λ h.
    let a : Activation = c.a-item.result in
    let keep : Activation → Bool = λ (b : Activation). role_in c.args.sessions.now b.session b.role in
    elim c.if-not-is_listed.branch [
      | then-not-is_listed w ↦ ap (λ m. counted m.entries h) w.counts-is
          ∙ left_counted c.loop-a.counts.entries keep c.args.active.now c.loop-a.a-index a c.loop-a-test.true c.a-item.is (sym c.is_listed.ensures ∙ w.if-not-is_listed.true) c.loop-a.invariant w.drop_count.new.counts.entries w.drop_count.ensures h
      | else-not-is_listed w ↦ ap (λ m. counted m.entries h) w.counts-is
          ∙ c.loop-a.invariant h
          ∙ ap (count_by (is_by h.user h.role)) (kept_step keep c.args.active.now c.loop-a.a-index a c.loop-a-test.true (ap keep (sym c.a-item.is) ∙ sym c.is_listed.ensures ∙ w.if-not-is_listed.false))
    ]
