use Rattle.std.proofs.Common.{◌||◌, ap, sym, ◌∙◌, arith}
use Rattle.gt_base.specs.Sets.{has}
use Rattle.delay_agenda.specs.Due.{pending_at, count_due}
use Rattle.delay_agenda.proofs.FarLaws.{over_empty}
use Rattle.delay_agenda.proofs.far.tell_all.Goals as goal

pub returns-clause-events : goal.returns-clause-events
returns-clause-events c e =
    ap (λ s. has c.loop-rest.into.set.events e || has s (pending_at c.args.t e)) (sym (over_empty c.args.near.now.set c.loop-rest.rest.now (omega arith)))
    ∙ c.loop-rest.invariant.events e

pub returns-clause-spare : goal.returns-clause-spare
returns-clause-spare c =
    let is = ap (λ s. count_due s c.args.t) (over_empty c.args.near.now.set c.loop-rest.rest.now (omega arith)) in
    omega (arith, is, c.loop-rest.invariant.spare)
