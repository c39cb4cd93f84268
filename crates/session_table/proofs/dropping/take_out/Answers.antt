use Rattle.session_table.proofs.Committing.{each_kept}
use Rattle.session_table.proofs.dropping.take_out.Goals as goal

pub returns-in-empty-clause-active : goal.returns-in-empty-clause-active
returns-in-empty-clause-active c = each_kept _ _ c.requires.listed
