use Rattle.std.proofs.Common.{sym, ◌∙◌}
use Rattle.std.proofs.lemmas.Result.{IfOk-weaker}
use Rattle.session_table.specs.Tables.{table_of}
use Rattle.core_machine.proofs.Asks.{answered}
use Rattle.core_machine.proofs.looking.look.Goals as goal

pub returns : goal.returns
returns c =
    let s = c.args.s.now in
    IfOk-weaker c.told.result _ _ (λ reply is. answered s.ground.policy s.birth s.entries.items s.line.line (table_of s.table) s.table.charged_to c.requires.kept c.keeps.ensures c.args.actor c.args.request.now reply (sym c.is_nobody.ensures ∙ c.if-is_nobody.false) is.is) c.told.ensures
