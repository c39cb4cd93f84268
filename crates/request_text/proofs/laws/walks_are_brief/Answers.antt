use Rattle.request_text.proofs.BriefWalks.{brief_reply}
use Rattle.request_text.proofs.Lengths.{longest}
use Rattle.request_text.proofs.laws.walks_are_brief.Goals as goal

pub returns : goal.returns
returns c np good r told = let brief = brief_reply np good r told.named told.sound in (brief, longest np good r told.small brief)
