use Rattle.gtrbac_model.proofs.Stepping.{tick_keeps, ask_keeps_legal}
use Rattle.gtrbac_model.proofs.laws.steps_keep_legal.Goals as goal

pub returns : goal.returns
returns c = record { tick = tick_keeps; ask = ask_keeps_legal }
