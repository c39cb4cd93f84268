use Rattle.std.proofs.Common.{rules, not, ap, ◌∙◌}
use Rattle.std.proofs.lemmas.Fn.{filter_same}
use Rattle.delay_agenda.specs.Due.{is_due_at}
use Rattle.delay_agenda.specs.Rows.{stands_in}
use Rattle.delay_agenda.proofs.FarLaws.{kept_any}
use Rattle.delay_agenda.proofs.far.forget.Goals as goal

pub returns-then-minute-horizon-clause-items : goal.returns-then-minute-horizon-clause-items
returns-then-minute-horizon-clause-items c q =
    ap (λ ks. stands_in ks q) (filter_same _ (λ p. not (is_due_at c.args.t p)) _ (λ x b f k. search rules) _ _ c.retain.ensures.filtered)
    ∙ kept_any (λ p. not (is_due_at c.args.t p)) _ q
