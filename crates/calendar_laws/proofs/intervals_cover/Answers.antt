use Rattle.gtrbac_model.proofs.Covers.{rising, begun, goes_on, only}
use Rattle.calendar_laws.proofs.intervals_cover.Goals as goal

pub returns : goal.returns
returns c = record { rising = rising; begun = begun; goes_on = goes_on; only = only }
