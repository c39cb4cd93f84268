use Rattle.std.proofs.Common.{◌≡◌, ℕ, ◌+◌, ◌-◌, ◌*◌, ◌/◌, cond, nat_eq, count_by, ap, ◌∙◌, arith}
use Rattle.gtrbac_model.specs.Sessions.{is_of}
use Rattle.history_laws.specs.Tables.{minutes_of_day}
use Rattle.session_table.specs.Charges.{charged_by_rows}
use Rattle.session_table.proofs.Wholes.{days_sum}
use Rattle.session_table.proofs.charged_days.charge_days.Goals as goal

pub returns-then-first-last-clause-charged : goal.returns-then-first-last-clause-charged
returns-then-first-last-clause-charged c = λ u r d.
    let n : ℕ = count_by (is_of u r) c.args.active.now in
    let first : ℕ = (c.minute.result + 1) / 1440 in
    let last : ℕ = c.day-last.result in
    let on_first : charged_by_rows c.charge_day.new.charges.entries u r d ≡ charged_by_rows c.args.rows.now.entries u r d + cond (nat_eq first d) (minutes_of_day c.args.now (c.args.to - c.args.now) first * n) 0 =
    c.charge_day.ensures.charged u r d ∙ ap (λ m. charged_by_rows c.args.rows.now.entries u r d + cond (nat_eq first d) (m * n) 0) c.minutes_on.ensures in
    let on_last : charged_by_rows c.charge_day-then-first-last.new.charges.entries u r d ≡ charged_by_rows c.charge_day.new.charges.entries u r d + cond (nat_eq last d) (minutes_of_day c.args.now (c.args.to - c.args.now) last * n) 0 =
    c.charge_day-then-first-last.ensures.charged u r d ∙ ap (λ m. charged_by_rows c.charge_day.new.charges.entries u r d + cond (nat_eq last d) (m * n) 0) c.minutes_on-then-first-last.ensures in
    let sum = days_sum c.args.now c.args.to first last d n c.requires.order (ap (λ m. (m + 1) / 1440) c.minute.ensures.value) c.day-last.ensures c.if-first-last.true in
    omega (arith, on_first, c.charge_whole.ensures.days u r d, on_last, sum)
