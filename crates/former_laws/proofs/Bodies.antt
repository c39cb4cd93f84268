-- A body without settled conditions.
use Rattle.std.proofs.Common.{◌≡◌, Bool, true, false, ◌&&◌, [], refl, ◌∙◌, ap}
use Rattle.std.specs.List.{list_all}
use Rattle.gt_base.specs.Held.{TriggerView}
use Rattle.gt_base.specs.Happening.{HappenedView}
use Rattle.gtrbac_model.specs.Conflict.{Status, after}
use Rattle.gtrbac_model.specs.Trigger.{holds, met}
use Rattle.former_laws.specs.Bodies.{former_met}

and_nothing : (b : Bool) → (b && true) ≡ b
and_nothing true = refl
and_nothing false = refl

pub met_as_before : (r : TriggerView) (x : HappenedView) (s : Status) → r.settled ≡ [] → met r x s ≡ former_met r x s
met_as_before r x s none =
    ap (λ cs. former_met r x s && list_all (holds (after x s)) cs) none ∙ and_nothing (former_met r x s)
