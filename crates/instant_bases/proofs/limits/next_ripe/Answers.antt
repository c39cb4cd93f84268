use Rattle.std.proofs.Common.{ℕ, ◌&&◌, ◌-◌, nat_le, Bool, refl, sym, arith}
use Rattle.gt_base.specs.declared.events.Fluent.{Fluent}
use Rattle.gt_base.specs.declared.events.Fluent.TheVariants.{Limit}
use Rattle.gt_base.specs.Sets.{has}
use Rattle.gtrbac_model.specs.Trigger.{holds}
use Rattle.duration_limits.specs.Aged.{is_aged}
use Rattle.duration_limits.specs.Following.{in_period}
use Rattle.duration_limits.specs.Since.{since_in}
use Rattle.duration_limits.proofs.Steps.{and_assoc}
use Rattle.instant_bases.proofs.Nexts.{by_test, waits}
use Rattle.instant_bases.proofs.limits.next_ripe.Goals as goal

pub returns-in-Some-clause-next : goal.returns-in-Some-clause-next
returns-in-Some-clause-next g c =
    let before : Fluent → Bool = has c.args.status.now.set in
    let since : Fluent → ℕ = since_in c.args.ages.now in
    let l = c.args.limit.now in
    by_test (λ t. is_aged before since c.args.id.0 l t && in_period c.args.periods.now l t) _ c.args.now c.next_there.result
    (λ t. sym (and_assoc (before (Limit (record { 0 = c.args.id.0 }))) (holds before l.cond) (nat_le l.most (t - since l.cond.fluent)) (in_period c.args.periods.now l t)))
    (waits (is_aged before since c.args.id.0 l) (in_period c.args.periods.now l) c.in-Some.from c.later_start.result c.args.now c.next_there.result c.later_start.ensures
    (λ t late high. c.in-Some.ensures.first t (omega (arith, late)) high) c.next_there.ensures.bound (c.next_there.ensures.next l refl))
