use Rattle.civil_time.proofs.Texts.{texts_are_read}
use Rattle.civil_time.proofs.laws.texts_are_read.Goals as goal

pub returns : goal.returns
returns c = texts_are_read
