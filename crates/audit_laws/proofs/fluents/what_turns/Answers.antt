use Rattle.audit_laws.proofs.Causing.{each_has_cause, only_requests_raise}
use Rattle.audit_laws.proofs.Turned.{what_turns}
use Rattle.audit_laws.proofs.fluents.what_turns.Goals as goal

pub returns : goal.returns
returns c = record { causes = each_has_cause; requests = only_requests_raise; turns = what_turns }
