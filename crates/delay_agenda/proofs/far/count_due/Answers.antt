use Rattle.std.proofs.Common.{◌+◌, ap, ◌∙◌, arith}
use Rattle.delay_agenda.specs.Due.{count_due}
use Rattle.delay_agenda.proofs.FarLaws.{more_due_than, none_more}
use Rattle.delay_agenda.proofs.far.count_due.Goals as goal

pub returns-then-minute-horizon-clause-count : goal.returns-then-minute-horizon-clause-count
returns-then-minute-horizon-clause-count c =
    let is = none_more c.args.near.now.set c.args.far.now c.args.horizon c.args.t c.requires (omega arith) in
    omega (arith, is)

pub returns-else-minute-horizon-clause-count : goal.returns-else-minute-horizon-clause-count
returns-else-minute-horizon-clause-count c = ap (λ n. n + count_due c.args.near.now.set c.args.t) c.count_all_due.ensures.count ∙ more_due_than _ _ _
