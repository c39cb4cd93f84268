use Rattle.std.proofs.Common.{◌≡◌, ℕ, ◌+◌, ◌*◌, ◌≤◌, cond, nat_le, nat_lt, List, sym, ap, subst, ◌∙◌, arith}
use Rattle.std.proofs.lemmas.Bool.{le-leb}
use Rattle.gt_base.specs.declared.events.RoleId.{RoleId}
use Rattle.gt_base.specs.declared.events.UserId.{UserId}
use Rattle.session_table.specs.declared.charges.Charge.{Charge}
use Rattle.session_table.specs.declared.whole.Whole.{Whole}
use Rattle.session_table.specs.Charges.{charged_by, charged_by_rows, charged_in, covering, covers}
use Rattle.session_table.specs.ChargedDays.{AllBefore, ChargedDaysView}
use Rattle.session_table.proofs.Forgetting.{at_most, rows_kept, still_before, stretches_kept}
use Rattle.session_table.proofs.Indexing.{count_kept}
use Rattle.session_table.proofs.charged_days.forget_days.Goals as goal
use Rattle.session_table.proofs.charged_days.forget_days.Goals.{After-forget_stretches}

module _ (c : After-forget_stretches) (u : UserId) (r : RoleId) (d : ℕ) where
  rows_are : charged_by_rows c.forget_rows.new.charges.entries u r d ≡ cond (nat_le c.args.day d) (charged_by_rows c.charges.inside.rows.entries u r d) 0
  rows_are = ap (λ (es : List (Charge × ℕ)). charged_by_rows es u r d) c.forget_rows.ensures ∙ rows_kept c.args.day c.charges.inside.rows.entries u r d

  kept : c.args.day ≤ d → charged_by c.forget_rows.new.charges.entries c.forget_stretches.new.stretches.items u r d ≡ charged_by c.charges.inside.rows.entries c.charges.inside.stretches.items u r d
  kept le =
      let rows : charged_by_rows c.forget_rows.new.charges.entries u r d ≡ charged_by_rows c.charges.inside.rows.entries u r d =
      rows_are ∙ ap (λ b. cond b (charged_by_rows c.charges.inside.rows.entries u r d) 0) (le-leb c.args.day d le) in
      let whole : covering c.forget_stretches.new.stretches.items u r d ≡ covering c.charges.inside.stretches.items u r d =
      ap (λ (ws : List Whole). covering ws u r d) c.forget_stretches.ensures ∙ stretches_kept c.args.day c.charges.inside.stretches.items u r d le in
      λ i. rows i + 1440 * whole i

  less : charged_by c.forget_rows.new.charges.entries c.forget_stretches.new.stretches.items u r d ≤ charged_by c.charges.inside.rows.entries c.charges.inside.stretches.items u r d
  less =
      let rows : cond (nat_le c.args.day d) (charged_by_rows c.charges.inside.rows.entries u r d) 0 ≤ charged_by_rows c.charges.inside.rows.entries u r d = at_most (nat_le c.args.day d) (charged_by_rows c.charges.inside.rows.entries u r d) in
      let whole : covering c.forget_stretches.new.stretches.items u r d ≤ covering c.charges.inside.stretches.items u r d =
      subst (λ (ws : List Whole). covering ws u r d ≤ covering c.charges.inside.stretches.items u r d) (sym c.forget_stretches.ensures) (count_kept (covers u r d) (λ (w : Whole). nat_lt c.args.day w.past) c.charges.inside.stretches.items) in
      omega (arith, rows_are, rows, whole)

pub returns-clause-kept : goal.returns-clause-kept
returns-clause-kept c = λ u r d le.
    kept (goal.at.returns-clause-kept c).After-forget_stretches u r d le ∙ ap (λ (v : ChargedDaysView). charged_in v.charged u r d) c.charges.view_is

pub returns-clause-less : goal.returns-clause-less
returns-clause-less c = λ u r d.
    subst (λ (v : ChargedDaysView). charged_by c.forget_rows.new.charges.entries c.forget_stretches.new.stretches.items u r d ≤ charged_in v.charged u r d) c.charges.view_is (less (goal.at.returns-clause-less c).After-forget_stretches u r d)

pub invariant_of-charges : goal.invariant_of-charges
invariant_of-charges c = record {
  ended = subst (AllBefore c.charges.inside.over) (sym c.forget_stretches.ensures) (still_before c.charges.inside.over (λ (w : Whole). nat_lt c.args.day w.past) c.charges.inside.stretches.items c.charges.invariant.ended);
  fits = λ u r d. let le = less (goal.at.invariant_of-charges c).After-forget_stretches u r d in omega (arith, le, c.charges.invariant.fits u r d);
}
