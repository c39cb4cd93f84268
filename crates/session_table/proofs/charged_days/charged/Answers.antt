use Rattle.std.proofs.Common.{◌≡◌, ◌+◌, ◌*◌, ◌≤◌, ap, ◌∙◌, arith}
use Rattle.session_table.specs.Charges.{charged_by_rows, charged_in, covering}
use Rattle.session_table.specs.ChargedDays.{ChargedDaysView}
use Rattle.session_table.proofs.Wholes.{none_cover}
use Rattle.session_table.proofs.charged_days.charged.Goals as goal

pub returns-then-charges-day : goal.returns-then-charges-day
returns-then-charges-day c =
    let le : c.charges.inside.over ≤ c.args.day = omega arith in
    let none : covering c.charges.inside.stretches.items c.args.user c.args.role c.args.day ≡ 0 = none_cover c.args.user c.args.role _ c.args.day _ c.charges.invariant.ended le in
    let row : c.charged_by_rows-in_row.result ≡ charged_by_rows c.charges.inside.rows.entries c.args.user c.args.role c.args.day = c.charged_by_rows-in_row.ensures in
    let all : c.charged_by_rows-in_row.result ≡ charged_by_rows c.charges.inside.rows.entries c.args.user c.args.role c.args.day + 1440 * covering c.charges.inside.stretches.items c.args.user c.args.role c.args.day =
    omega (arith, none, row) in
    all ∙ ap (λ (v : ChargedDaysView). charged_in v.charged c.args.user c.args.role c.args.day) c.charges.view_is
