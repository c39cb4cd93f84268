use Rattle.history_laws.proofs.Lying.{liar_has_cycle, liar_settles_never}
use Rattle.history_laws.proofs.unsafe_rows.liar_settles_never.Goals as goal

pub returns : goal.returns
returns c = record { cycle = liar_has_cycle; never = liar_settles_never }
