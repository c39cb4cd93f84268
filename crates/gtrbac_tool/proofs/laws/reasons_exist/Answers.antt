use Rattle.gtrbac_tool.proofs.Reasons.{reasons_exist}
use Rattle.gtrbac_tool.proofs.NamedRuns.{tellings_are_explained}
use Rattle.gtrbac_tool.proofs.laws.reasons_exist.Goals as goal

pub returns-clause-sets : goal.returns-clause-sets
returns-clause-sets c = reasons_exist

pub returns-clause-told : goal.returns-clause-told
returns-clause-told c = tellings_are_explained
