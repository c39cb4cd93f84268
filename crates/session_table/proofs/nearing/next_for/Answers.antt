use Rattle.std.proofs.Common.{◌+◌, ◌-◌, ◌*◌, ◌||◌, count_by, subst}
use Rattle.gtrbac_model.specs.Calendar.{day_of}
use Rattle.gtrbac_model.specs.Sessions.{Activation, reached, is_of}
use Rattle.history_laws.specs.Tables.{minutes_of_day}
use Rattle.session_table.specs.Charges.{charged_in}
use Rattle.session_table.specs.NextDrops.{IsFirstOrNone}
use Rattle.session_table.proofs.nearing.next_for.Goals as goal

pub returns : goal.returns
returns c =
    subst (λ (b : Activation). IsFirstOrNone (λ t. reached c.args.caps.length (t - b.begun)
    || reached c.args.caps.day (charged_in c.args.charges.now.charged b.user b.role (day_of t) + minutes_of_day c.args.now (t - c.args.now) (day_of t) * count_by (is_of b.user b.role) c.args.active.now.items)) c.args.now c.earlier.result)
    c.a.view_is
    (c.earlier.ensures (λ t. reached c.args.caps.length (t - c.a.inside.begun))
    (λ t. reached c.args.caps.day (charged_in c.args.charges.now.charged c.a.inside.user c.a.inside.role (day_of t) + minutes_of_day c.args.now (t - c.args.now) (day_of t) * count_by (is_of c.a.inside.user c.a.inside.role) c.args.active.now.items))
    c.args.now c.next_too_long-long.ensures c.next_spent-full.ensures)
