use Rattle.std.proofs.Common.{◌-◌, nat_le}
use Rattle.gt_base.specs.declared.events.Fluent.TheVariants.{Limit}
use Rattle.gtrbac_model.specs.Trigger.{holds}
use Rattle.duration_limits.specs.Following.{in_period}
use Rattle.duration_limits.proofs.Steps.{and_assoc}
use Rattle.duration_limits.proofs.laws.ripe_is_aged.Goals as goal

pub returns : goal.returns
returns c = λ periods before since n l t.
    and_assoc (before (Limit (record { 0 = n }))) (holds before l.cond) (nat_le l.most (t - since l.cond.fluent)) (in_period periods l t)
