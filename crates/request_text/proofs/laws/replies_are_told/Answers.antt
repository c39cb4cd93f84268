use Rattle.request_text.proofs.ToldReplies.{reply_tells}
use Rattle.request_text.proofs.laws.replies_are_told.Goals as goal

pub returns : goal.returns
returns c = reply_tells
