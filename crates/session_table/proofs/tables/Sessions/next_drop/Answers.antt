use Rattle.std.proofs.Common.{subst}
use Rattle.std.specs.List.{list_any}
use Rattle.session_table.specs.NextDrops.{IsFirstOrNone, capped_in, is_any_capped}
use Rattle.session_table.specs.Tables.{TableView, table_of}
use Rattle.session_table.proofs.Keeping.{few_of}
use Rattle.session_table.proofs.tables.Sessions.next_drop.Goals as goal

pub next_capped-requires-clause-few : goal.next_capped-requires-clause-few
next_capped-requires-clause-few c = λ u r.
    few_of c.self.inside.sessions.items c.self.inside.active.items c.self.inside.charges.charged c.self.inside.charged_to c.self.invariant.kept u r

pub returns : goal.returns
returns c =
    subst (λ (v : TableView). IsFirstOrNone (is_any_capped c.args.caps.now.items c.args.now (table_of v)) c.args.now c.next_capped.result) c.self.view_is
    (subst (λ ks. IsFirstOrNone (λ t. list_any (capped_in ks c.self.inside.charges.charged c.self.inside.active.items c.args.now t) c.self.inside.active.items) c.args.now c.next_capped.result) c.as_slice.ensures c.next_capped.ensures)
