use Rattle.text_laws.proofs.Texts.{texts_say, first_fault_is_told}
use Rattle.text_laws.proofs.laws.texts_are_read.Goals as goal

pub returns : goal.returns
returns c = record { say = texts_say; fault = first_fault_is_told }
