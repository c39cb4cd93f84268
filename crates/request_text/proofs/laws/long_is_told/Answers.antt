use Rattle.request_text.proofs.ReadBySpelling.{long_read}
use Rattle.request_text.proofs.laws.long_is_told.Goals as goal

pub returns : goal.returns
returns c = long_read
