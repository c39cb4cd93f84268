use Rattle.std.proofs.Common.{rules, ap}
use Rattle.turn_lock.proofs.Seated.{counts_at}
use Rattle.turn_lock.proofs.steps.wake.Goals as goal

pub load-drawn-requires : goal.load-drawn-requires
load-drawn-requires g c = (search rules, search rules, counts_at g.M.Keeps.list g.M.Keeps.same_root c.args.top.now.key _ _ _ _ (ap (λ cs. (c.args.seat.now.me.0, cs)) c.requires.hand))
