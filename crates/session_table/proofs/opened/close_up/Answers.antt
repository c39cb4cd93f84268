use Rattle.std.proofs.Common.{map, ap, sym, subst, ◌∙◌}
use Rattle.session_table.specs.declared.opened.Open.{Open}
use Rattle.session_table.specs.Opened.{opened, still_open, NumberedFrom}
use Rattle.session_table.proofs.Indexing.{open_again}
use Rattle.session_table.proofs.Numbering.{fewer_rows}
use Rattle.session_table.proofs.opened.close_up.Goals as goal

pub returns-then-len-standing-clause-standing : goal.returns-then-len-standing-clause-standing
returns-then-len-standing-clause-standing c = ap still_open c.keep_open.ensures ∙ open_again c.args.sessions.now.items

pub returns-then-len-standing-clause-numbered : goal.returns-then-len-standing-clause-numbered
returns-then-len-standing-clause-numbered c = λ top h.
    subst (λ os. NumberedFrom 0 (map opened os) top) (sym c.keep_open.ensures) (fewer_rows (λ (o : Open). o.is_open) 0 top c.args.sessions.now.items h)
