use Rattle.request_text.proofs.LegalLogs.{legal_log_tells}
use Rattle.request_text.proofs.laws.logs_are_told.Goals as goal

pub returns : goal.returns
returns c = legal_log_tells
