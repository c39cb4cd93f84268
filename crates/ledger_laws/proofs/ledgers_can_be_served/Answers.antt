use Rattle.ledger_laws.proofs.Serving.{book_is_served}
use Rattle.ledger_laws.proofs.ledgers_can_be_served.Goals as goal

pub returns : goal.returns
returns c = book_is_served c.args.ledger.now c.keeps.ensures.kept
