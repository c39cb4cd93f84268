use Rattle.history_laws.proofs.Refusing.{refused_changes_nothing, legal_without_refused}
use Rattle.history_laws.proofs.histories.refused_changes_nothing.Goals as goal

pub returns : goal.returns
returns c = record { same = refused_changes_nothing; legal = legal_without_refused }
