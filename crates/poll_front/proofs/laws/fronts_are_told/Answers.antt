use Rattle.poll_front.proofs.Telling.{front_told}
use Rattle.poll_front.proofs.laws.fronts_are_told.Goals as goal

pub returns : goal.returns
returns g c = λ root np birth timed h before after clock clock' start b ends end r fresh number told.
    front_told np (g.M.Machine.legal root) (g.M.Machine.now_of root) birth timed h before after clock clock' start b ends end r fresh number told
