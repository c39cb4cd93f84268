use Rattle.std.proofs.Common.{◌≡◌, ℕ, ◌+◌, ◌-◌, ◌*◌, ◌/◌, nat_le, count_by, sym, ap, subst, ◌∙◌}
use Rattle.gtrbac_model.specs.Calendar.{day_of}
use Rattle.gtrbac_model.specs.Sessions.{is_of}
use Rattle.history_laws.specs.Tables.{minutes_of_day}
use Rattle.session_table.specs.Charges.{charged_in}
use Rattle.session_table.specs.NextDrops.{IsFirstOrNone}
use Rattle.session_table.proofs.nearing.next_spent.Goals as goal

pub returns-in-Some : goal.returns-in-Some
returns-in-Some c =
    let charge : ℕ → ℕ = charged_in c.args.charges.now.charged c.args.user c.args.role in
    let spent : charge (day_of (c.args.now + 1)) ≡ c.charged-spent.result = ap (λ m. charge ((m + 1) / 1440)) (sym c.minute.ensures.value) ∙ sym c.charged-spent.ensures in
    let full : IsFirstOrNone (λ t. nat_le c.in-Some.most (charge (day_of t) + minutes_of_day c.args.now (t - c.args.now) (day_of t) * count_by (is_of c.args.user c.args.role) c.args.active.now.items)) c.args.now c.next_reached.result =
    subst (λ n. IsFirstOrNone (λ t. nat_le c.in-Some.most (charge (day_of t) + minutes_of_day c.args.now (t - c.args.now) (day_of t) * n)) c.args.now c.next_reached.result) c.count_of.ensures
    (c.next_reached.ensures charge spent c.requires.later) in
    rw c.in-Some.is full
