use Rattle.history_laws.proofs.Silent.{looks_change_nothing, looks_may_be_left_out}
use Rattle.audit_laws.proofs.no_change.looks_change_nothing.Goals as goal

pub returns : goal.returns
returns c = record { one = looks_change_nothing; all = looks_may_be_left_out }
