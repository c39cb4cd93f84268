use Rattle.std.proofs.Common.{◌≡◌, ◌++◌, ◌∷◌, [], take, true, sym, ap, ◌∙◌, arith}
use Rattle.std.proofs.lemmas.List.{take_more}
use Rattle.std.proofs.lemmas.List.Folds.{list_any_at}
use Rattle.std.specs.Ordering.{eq_by_cmp}
use Rattle.gt_base.proofs.SetLaws.{eq_itself}
use Rattle.delay_agenda.specs.Due.{pending_cmp}
use Rattle.delay_agenda.specs.Far.{all_over}
use Rattle.delay_agenda.specs.Rows.{stands_in}
use Rattle.delay_agenda.proofs.PendingLaws.{pending_cmp_total}
use Rattle.delay_agenda.proofs.FarLaws.{near_more, over_twice, put_there, stays_there}
use Rattle.delay_agenda.proofs.far.insert_all.Goals as goal
use Rattle.delay_agenda.proofs.far.insert_all.Goals.{then-minute-to+in_ok-insert, else-minute-to}

pub loop-p-preserved : goal.loop-p-preserved
loop-p-preserved c =
    let x = c.p-item.result in
    let there : stands_in c.args.far.now x ≡ true = list_any_at (eq_by_cmp pending_cmp x) c.args.far.now c.loop-p.p-index x c.loop-p-test.true (ap (eq_by_cmp pending_cmp x) (sym c.p-item.is) ∙ eq_itself pending_cmp_total x) in
    let next = take_more c.args.far.now c.loop-p.p-index x c.loop-p-test.true ∙ ap (λ y. take c.loop-p.p-index c.args.far.now ++ y ∷ []) (sym c.p-item.is) in
    elim c.if-minute-to.branch [
      | then-minute-to+in_ok-insert w ↦ rw w.near-is (record {
        set = ap (λ s. all_over s c.args.far.now) w.in_ok-insert.ensures.ok ∙ over_twice c.loop-p.near.set c.args.far.now x there ∙ c.loop-p.invariant.set;
        near = near_more c.loop-p.near.set _ _ _ x c.args.to next (λ q h. stays_there _ _ x q w.in_ok-insert.ensures.ok h) (λ _. put_there _ _ x w.in_ok-insert.ensures.ok) c.loop-p.invariant.near;
        spare = w.insert.ensures.spare ∙ c.loop-p.invariant.spare;
      })
      | else-minute-to w ↦ rw w.near-is (record {
        set = c.loop-p.invariant.set;
        near = near_more c.loop-p.near.set _ _ _ x c.args.to next (λ q h. h) (λ le. absurd (omega (arith, le, w.if-minute-to.false, c.minute.ensures.value))) c.loop-p.invariant.near;
        spare = c.loop-p.invariant.spare;
      })
    ]
