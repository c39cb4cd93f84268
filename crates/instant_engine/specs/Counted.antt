-- How often triggers are looked at, at most.
use Rattle.std.specs.Prelude.{ℕ, ◌+◌, ◌*◌, Bool, true, false, List, length}
use Rattle.gt_base.specs.Held.{TriggerView}
use Rattle.gt_base.specs.Happening.{HappenedView}
use Rattle.gt_base.specs.Sets.{members}
use Rattle.instant_engine.specs.OnTheWay.{prompted}

-- how many events and signals the set has
abbrev pub size : HappenedView → ℕ
size x = length (members x.events) + length (members x.signals)

-- how many triggers have them in their bodies, each counted once for each of them
abbrev pub woken : List TriggerView → HappenedView → ℕ
woken rules x = length (prompted rules x)

-- at the begin of a level with so many triggers: where each trigger has an event or a signal in its
-- body, as often as the set has some and as they wake triggers; else each trigger of the level once
abbrev pub first_looks : Bool → ℕ → List TriggerView → HappenedView → ℕ
first_looks true due rules x = size x + woken rules x
first_looks false due rules x = due

-- at all of so many levels, on the way to the set: that at each level, or each trigger once; and
-- each trigger again for each event that wakes it
abbrev pub most_looks : Bool → ℕ → List TriggerView → HappenedView → ℕ
most_looks true levels rules x = levels * (size x + woken rules x) + woken rules x
most_looks false levels rules x = length rules + woken rules x
