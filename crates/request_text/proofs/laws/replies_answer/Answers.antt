use Rattle.request_text.proofs.Answering.{reply_answers}
use Rattle.request_text.proofs.laws.replies_answer.Goals as goal

pub returns : goal.returns
returns c = reply_answers
