use Rattle.ledger_laws.proofs.Serving.{book_is_served}
use Rattle.ledger_laws.proofs.Telling.{told}
use Rattle.ledger_laws.proofs.glances_can_be_told.Goals as goal

pub returns : goal.returns
returns c = told c.args.ledger.now (book_is_served c.args.ledger.now c.keeps.ensures.kept)
