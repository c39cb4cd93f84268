use Rattle.std.proofs.Common.{Bool, count_by, Some, None, refl, sym, ap, ◌∙◌, not}
use Rattle.std.proofs.lemmas.Bool.{eq-eqb}
use Rattle.gtrbac_model.specs.Sessions.{Activation, is_active_in}
use Rattle.session_table.proofs.Counts.{kept_step, left_counted, own, still_counted}
use Rattle.session_table.specs.Counting.{counted, is_by}
use Rattle.session_table.proofs.counting.uncount_role.Goals as goal
use Rattle.session_table.proofs.counting.uncount_role.Goals.{then-is_active_in, else-is_active_in}

pub drop_count-requires-clause-own : goal.drop_count-requires-clause-own
drop_count-requires-clause-own c =
    let a : Activation = c.a-item.result in
    still_counted c.loop-a.counts.entries (λ (b : Activation). not (is_active_in c.args.session c.args.role b)) c.args.active.now c.loop-a.a-index a c.loop-a-test.true c.a-item.is (ap not (sym c.is_active_in.ensures ∙ c.if-is_active_in.true)) c.loop-a.invariant (record { user = Some a.user; role = a.role }) (own a)

pub drop_count-requires-clause-all : goal.drop_count-requires-clause-all
drop_count-requires-clause-all c =
    let a : Activation = c.a-item.result in
    still_counted c.loop-a.counts.entries (λ (b : Activation). not (is_active_in c.args.session c.args.role b)) c.args.active.now c.loop-a.a-index a c.loop-a-test.true c.a-item.is (ap not (sym c.is_active_in.ensures ∙ c.if-is_active_in.true)) c.loop-a.invariant (record { user = None; role = a.role }) (eq-eqb a.role.0 a.role.0 refl)

pub loop-a-preserved : goal.loop-a-preserved
loop-a-preserved c = λ h.
    let a : Activation = c.a-item.result in
    let keep : Activation → Bool = λ (b : Activation). not (is_active_in c.args.session c.args.role b) in
    elim c.if-is_active_in.branch [
      | then-is_active_in w ↦ ap (λ m. counted m.entries h) w.counts-is
          ∙ left_counted c.loop-a.counts.entries keep c.args.active.now c.loop-a.a-index a c.loop-a-test.true c.a-item.is (ap not (sym c.is_active_in.ensures ∙ w.if-is_active_in.true)) c.loop-a.invariant w.drop_count.new.counts.entries w.drop_count.ensures h
      | else-is_active_in w ↦ ap (λ m. counted m.entries h) w.counts-is
          ∙ c.loop-a.invariant h
          ∙ ap (count_by (is_by h.user h.role)) (kept_step keep c.args.active.now c.loop-a.a-index a c.loop-a-test.true (ap keep (sym c.a-item.is) ∙ ap not (sym c.is_active_in.ensures ∙ w.if-is_active_in.false)))
    ]
