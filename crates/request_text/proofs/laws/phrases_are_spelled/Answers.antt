use Rattle.request_text.proofs.PhraseReads.{phrase_reads}
use Rattle.request_text.proofs.PhraseWords.{phrase_is}
use Rattle.request_text.proofs.laws.phrases_are_spelled.Goals as goal

pub returns : goal.returns
returns c script words phrase = (phrase_is script words phrase, phrase_reads script words phrase)
