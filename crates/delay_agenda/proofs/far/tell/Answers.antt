use Rattle.std.proofs.Common.{◌||◌, ap, sym, arith}
use Rattle.gt_base.specs.Sets.{has}
use Rattle.delay_agenda.proofs.FarLaws.{told_there, none_more}
use Rattle.delay_agenda.proofs.far.tell.Goals as goal

pub returns-else-minute-horizon-clause-events : goal.returns-else-minute-horizon-clause-events
returns-else-minute-horizon-clause-events c e = ap (λ b. has c.args.into.now.set.events e || b) (sym (told_there c.args.near.now.set c.args.far.now c.args.horizon c.args.t c.requires.behind (omega arith) e))

pub returns-else-minute-horizon-clause-spare : goal.returns-else-minute-horizon-clause-spare
returns-else-minute-horizon-clause-spare c =
    let is = none_more c.args.near.now.set c.args.far.now c.args.horizon c.args.t c.requires.behind (omega arith) in
    omega (arith, is)
