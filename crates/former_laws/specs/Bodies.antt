-- When a body was met before there were conditions on the status after the instant.
use Rattle.std.specs.Prelude.{◌≡◌, Bool, ◌&&◌, List, [], All}
use Rattle.std.specs.List.{list_all}
use Rattle.gt_base.specs.Held.{TriggerView}
use Rattle.gt_base.specs.Happening.{HappenedView}
use Rattle.gt_base.specs.Sets.{has}
use Rattle.gtrbac_model.specs.Conflict.{Status, won}
use Rattle.gtrbac_model.specs.Trigger.{holds, met}

-- each body event is won, each body signal is there, and each condition held before
abbrev pub former_met : TriggerView → HappenedView → Status → Bool
former_met r x s = list_all (won x) r.events && list_all (has x.signals) r.signals
    && list_all (holds s) r.conds

-- no trigger has a settled condition
abbrev pub AreBare : List TriggerView → Type 0
AreBare rules = All (λ r. r.settled ≡ []) rules

abbrev pub MetAsBefore : Type 0
MetAsBefore = (r : TriggerView) (x : HappenedView) (s : Status) → r.settled ≡ []
    → met r x s ≡ former_met r x s
