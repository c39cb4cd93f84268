use Rattle.request_text.proofs.EntryLengths.{entry_length}
use Rattle.request_text.proofs.entries.entry_fits.Goals as goal

pub returns : goal.returns
returns c = entry_length c.args.p.now c.keeps.ensures c.args.e.now c.small_who.ensures c.requires.short c.small_step.ensures
