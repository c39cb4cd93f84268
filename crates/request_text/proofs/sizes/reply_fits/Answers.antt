use Rattle.request_text.proofs.Lengths.{longest}
use Rattle.request_text.proofs.sizes.reply_fits.Goals as goal

pub returns : goal.returns
returns c = longest c.args.p.now c.keeps.ensures c.args.r.now c.small.ensures c.requires
