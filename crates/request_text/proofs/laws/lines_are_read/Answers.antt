use Rattle.request_text.proofs.ReadBySpelling.{lines_are_read}
use Rattle.request_text.proofs.laws.lines_are_read.Goals as goal

pub returns : goal.returns
returns c = lines_are_read
