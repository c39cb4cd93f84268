use Rattle.request_text.proofs.BriefWalks.{brief_reply}
use Rattle.request_text.proofs.SoundReplies.{reply_sounds}
use Rattle.request_text.proofs.laws.replies_can_be_written.Goals as goal

pub returns : goal.returns
returns c np good pt point actor q =
    let is = reply_sounds np.policy pt point actor q in record { named = is.named; sound = is.sound; brief = brief_reply np good _ is.named is.sound }
