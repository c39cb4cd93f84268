use Rattle.std.proofs.Common.{sym, ap, subst, ◌∙◌}
use Rattle.session_table.specs.Kept.{IsTable}
use Rattle.session_table.specs.Permits.{rows_table}
use Rattle.session_table.specs.Tables.{table_of}
use Rattle.session_table.proofs.tables.Sessions.copied.Goals as goal

pub invariant_of-result : goal.invariant_of-result
invariant_of-result c =
    subst (λ os. IsTable os c.self.inside.standing c.in_ok-active.active.items c.in_ok-charges.charges.charged c.self.inside.charged_to c.self.inside.begun) (sym (c.in_ok-sessions.ensures ∙ c.deref.ensures.value))
    (subst (λ xs. IsTable c.self.inside.sessions.items c.self.inside.standing xs c.in_ok-charges.charges.charged c.self.inside.charged_to c.self.inside.begun) (sym c.in_ok-active.ensures)
    (subst (λ rows. IsTable c.self.inside.sessions.items c.self.inside.standing c.self.inside.active.items rows c.self.inside.charged_to c.self.inside.begun) (sym c.in_ok-charges.ensures) c.self.invariant))

pub returns-clause-table : goal.returns-clause-table
returns-clause-table c =
    ap (λ os. rows_table os c.in_ok-active.active.items c.in_ok-charges.charges.charged c.self.inside.begun) (c.in_ok-sessions.ensures ∙ c.deref.ensures.value)
    ∙ ap (λ xs. rows_table c.self.inside.sessions.items xs c.in_ok-charges.charges.charged c.self.inside.begun) c.in_ok-active.ensures
    ∙ ap (λ rows. rows_table c.self.inside.sessions.items c.self.inside.active.items rows c.self.inside.begun) c.in_ok-charges.ensures
    ∙ ap table_of c.self.view_is
