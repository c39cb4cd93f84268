use Rattle.std.proofs.Common.{Some, sym, ap, ◌∙◌, add-zero, arith}
use Rattle.session_table.specs.declared.charges.Charge.{Charge}
use Rattle.session_table.specs.Charges.{charged_by_rows}
use Rattle.session_table.proofs.Writing.{row_added, row_says, written_over}
use Rattle.session_table.proofs.charges.add_at.Goals as goal

pub returns-then-not-is_same-clause-charged : goal.returns-then-not-is_same-clause-charged
returns-then-not-is_same-clause-charged c = λ u r d.
    ap (λ es. charged_by_rows es u r d) (written_over c.args.charges.now.entries c.args.place _ _ c.pair_mut-row.ensures.value) ∙ sym (add-zero (charged_by_rows c.args.charges.now.entries u r d))

pub overflow_add-row : goal.overflow_add-row
overflow_add-row c =
    let says = row_says c.args.charges.now c.args.place c.args.key c.pair_mut-row.result.1.now c.pair_mut-row.ensures.unique (c.pair_mut-row.ensures.value ∙ ap (λ (k : Charge). Some (k, c.pair_mut-row.result.1.now)) (c.is_same.ensures c.if-not-is_same.false)) in
    omega (arith, says, c.requires)

pub returns-clause-charged : goal.returns-clause-charged
returns-clause-charged c =
    row_added c.args.charges.now c.args.place c.args.key c.pair_mut-row.result.1.now c.pair_mut-row.ensures.unique (c.pair_mut-row.ensures.value ∙ ap (λ (k : Charge). Some (k, c.pair_mut-row.result.1.now)) (c.is_same.ensures c.if-not-is_same.false)) c.args.minutes
