use Rattle.history_laws.proofs.Wavering.{waverer_has_cycle, waverer_settles_never}
use Rattle.history_laws.proofs.unsafe_rows.waverer_settles_never.Goals as goal

pub returns : goal.returns
returns c = record { cycle = waverer_has_cycle; never = waverer_settles_never }
