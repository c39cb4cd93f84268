use Rattle.std.proofs.Common.{◌+◌, ◌-◌, ◌*◌, ◌<◌, count_by, sym, subst, arith}
use Rattle.gtrbac_model.specs.Sessions.{is_of}
use Rattle.history_laws.specs.Tables.{minutes_of_day}
use Rattle.session_table.specs.Charges.{charged_by, charged_in}
use Rattle.session_table.specs.ChargedDays.{ChargedDaysView}
use Rattle.session_table.proofs.charged_days.charge_stretch.Goals as goal

pub charge_days-requires-clause-bound : goal.charge_days-requires-clause-bound
charge_days-requires-clause-bound c = λ u r d.
    subst (λ (v : ChargedDaysView). charged_in v.charged u r d + minutes_of_day c.args.now (c.args.to - c.args.now) d * count_by (is_of u r) c.args.active.now < 4_294_967_296) (sym c.charges.view_is) (c.requires.bound u r d)

pub invariant_of-charges : goal.invariant_of-charges
invariant_of-charges c = record {
  ended = c.charge_days.ensures.before c.max-charges-inside.result (omega (arith, c.max-charges-inside.ensures, c.day.ensures))
      (λ i d lt. let le = c.charges.invariant.ended i d lt in omega (arith, le, c.max-charges-inside.ensures));
  fits = λ u r d.
      let bound : charged_by c.charges.inside.rows.entries c.charges.inside.stretches.items u r d + minutes_of_day c.args.now (c.args.to - c.args.now) d * count_by (is_of u r) c.args.active.now < 4_294_967_296 =
      subst (λ (v : ChargedDaysView). charged_in v.charged u r d + minutes_of_day c.args.now (c.args.to - c.args.now) d * count_by (is_of u r) c.args.active.now < 4_294_967_296) (sym c.charges.view_is) (c.requires.bound u r d) in
      omega (arith, c.charge_days.ensures.charged u r d, bound);
}
