use Rattle.request_text.proofs.WrittenRequests.{written_is_read, request_tells}
use Rattle.request_text.proofs.ShortRequests.{short_request}
use Rattle.request_text.proofs.laws.requests_are_told.Goals as goal

pub returns : goal.returns
returns c = record { read = λ np good opening script r h. written_is_read np good opening script r h (short_request np good r h); told = request_tells }
