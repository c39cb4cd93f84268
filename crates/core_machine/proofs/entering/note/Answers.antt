use Rattle.std.proofs.Common.{◌≡◌, List, [], ◌∷◌, ◌++◌, sym, ap, subst, ◌∙◌}
use Rattle.gt_base.specs.Machines.{asked}
use Rattle.gt_base.specs.declared.requests.Entry.{Entry}
use Rattle.session_table.specs.Tables.{table_of}
use Rattle.core_machine.specs.Coherent.{Coherent}
use Rattle.core_machine.proofs.Asks.{kept_still}
use Rattle.core_machine.proofs.entering.note.Goals as goal

pub returns-clause-kept : goal.returns-clause-kept
returns-clause-kept c =
    let s = c.args.s.now in
    let ready = c.requires.ready in
    let e = asked c.args.who c.args.actor c.args.request c.args.reply in
    let entries : c.add_entry.new.entries.items ≡ s.entries.items ++ e ∷ [] = c.add_entry.ensures ∙ ap (λ (xs : List Entry). xs ++ e ∷ []) c.in_ok-reserve.ensures.items in
    subst (λ (h : List Entry). Coherent s.ground.policy s.birth h s.line.line (table_of s.table) s.table.charged_to) (sym entries)
    (kept_still s.ground.policy s.birth s.entries.items s.line.line (table_of s.table) s.table.charged_to ready.kept c.keeps.ensures c.args.who c.args.actor c.args.request c.args.reply ready.named ready.room c.requires.told c.requires.still)
